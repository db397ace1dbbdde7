use Rattle.frame_session.proofs.Pieces.{all_pieces, one_piece_frames, one_piece_rest}
use Rattle.frame_session.proofs.laws.law_pieces.Goals as goal

pub returns-clause-all : goal.returns-clause-all
returns-clause-all c = all_pieces

pub returns-clause-frames : goal.returns-clause-frames
returns-clause-frames c = one_piece_frames

pub returns-clause-rest : goal.returns-clause-rest
returns-clause-rest c = one_piece_rest
