use Rattle.disk_core.proofs.Inside.{any_byte, any_shorter, any_longer}
use Rattle.disk_core.proofs.laws.law_images.Goals as goal

pub returns-clause-bytes : goal.returns-clause-bytes
returns-clause-bytes c = any_byte

pub returns-clause-shorter : goal.returns-clause-shorter
returns-clause-shorter c = any_shorter

pub returns-clause-longer : goal.returns-clause-longer
returns-clause-longer c = any_longer
