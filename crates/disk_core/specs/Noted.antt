-- What a note adds to a history.
use Rattle.std.specs.Prelude.{ℕ, List, [], ◌∷◌}
use Rattle.disk_core.specs.Images.{Content}
use Rattle.disk_core.specs.Trail.{History}
use Rattle.disk_core.specs.declared.trail.Note.{Note}
use Rattle.disk_core.specs.declared.trail.Note.TheVariants.{Write, Cut, Sync}

abbrev was : History → List ℕ → ℕ → ℕ → Content
was history bytes least most = record { bytes = bytes; least = least; most = most; written = history.written }

abbrev pub noted : History → Note → History
noted h (Write bytes least most at count) = record { written = (at, count) ∷ h.written; past = was h bytes.now least most ∷ h.past }
noted h (Cut bytes least most) = record { written = h.written; past = was h bytes.now least most ∷ h.past }
noted h (Sync bytes least most) = record { written = []; past = was h bytes.now least most ∷ h.past }
