-- What a call does to a file, where there is one.
use Rattle.std.specs.Prelude.{◌≡◌, Option, Some, None, option_map}
use Rattle.disk_core.specs.Images.{Content}

-- there is one as before, and what it tells is changed so
abbrev pub ReachesFile : {F : Type 0} → (F → Option Content) → (Content → Content) → Option F → Option F → Type 0
ReachesFile held change None new = new ≡ None
ReachesFile held change (Some old) new = (file : _) × (new ≡ Some file) × (held file ≡ option_map change (held old))
