-- How the logic stores what a disk held before.
use Rattle.std.specs.Prelude.{ℕ, List, refl}
use Rattle.std.specs.Coded.{Coded, code_by, coded×, coded_ℕ, coded_list}
use Rattle.disk_core.specs.Images.{Content}

-- the writes since the last sync, and what was held before each change, the newest first
pub record History : Type 0 where
  pub written : List (ℕ × ℕ)
  pub past : List Content

abbrev ranges_code : Coded (List (ℕ × ℕ))
ranges_code = coded_list (coded× coded_ℕ coded_ℕ)

abbrev content_code : Coded Content
content_code = code_by (List ℕ × (ℕ × (ℕ × List (ℕ × ℕ)))) (coded× (coded_list coded_ℕ) (coded× coded_ℕ (coded× coded_ℕ ranges_code)))
    (λ c. (c.bytes, (c.least, (c.most, c.written)))) (λ p. record { bytes = p.0; least = p.1.0; most = p.1.1.0; written = p.1.1.1 }) (λ _. refl)

abbrev pub history_code : Coded History
history_code = code_by (List (ℕ × ℕ) × List Content) (coded× ranges_code (coded_list content_code)) (λ h. (h.written, h.past)) (λ p. record { written = p.0; past = p.1 }) (λ _. refl)
