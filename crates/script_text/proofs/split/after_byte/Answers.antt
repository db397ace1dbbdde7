use Rattle.std.proofs.Common.{refl}
use Rattle.script_text.proofs.split.after_byte.Goals as goal

pub returns-then-byte-eq92 : goal.returns-then-byte-eq92
returns-then-byte-eq92 c = rw (c.in-Within.is, c.if-byte-eq92.true) refl
