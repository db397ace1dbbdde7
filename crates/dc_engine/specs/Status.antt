-- What a status is to the process: its code, and what it prints on standard error.
use Rattle.std.specs.Prelude.{ℕ, Bool, true, false, List, [], ◌∷◌, ◌++◌, Option, None, Some, codes}
use Rattle.dc_engine.specs.declared.status.Status.{Status}
use Rattle.dc_engine.specs.declared.status.Status.TheVariants as status

abbrev pub code_of : Status → ℕ
code_of status.Done = 0
code_of status.BadLine = 1
code_of status.Usage = 2
code_of status.ReadFault = 3
code_of status.WriteFault = 4
code_of status.NoMemory = 5
code_of status.TooLong = 6
code_of status.NoDisk = 7

-- the one line of a status, without its LF
abbrev pub text_of : Status → Option (List ℕ)
text_of status.Done = None
text_of status.BadLine = None
text_of status.Usage = Some (codes "usage: dc_shell play [--json] [--data DIR] [--frames] or storm D N clients txns number [--trace]")
text_of status.ReadFault = Some (codes "read fault")
text_of status.WriteFault = Some (codes "write fault")
text_of status.NoMemory = Some (codes "out of memory")
text_of status.TooLong = Some (codes "script too long")
text_of status.NoDisk = Some (codes "no disk")

-- a text and a LF, where there is one
abbrev pub line_if : Option (List ℕ) → List ℕ
line_if None = []
line_if (Some text) = text ++ 10 ∷ []

-- the line of a status
abbrev pub told : Status → List ℕ
told status = line_if (text_of status)

-- the script was read to its end
abbrev pub ends_whole : Status → Bool
ends_whole status.Done = true
ends_whole status.BadLine = true
ends_whole other = false
