-- How a dot is told from others.
use Rattle.std.specs.Prelude.{ℕ, refl}
use Rattle.std.specs.Coded.{Coded, code_by, coded×, coded_ℕ}
use Rattle.site_vector.specs.declared.ids.Dot.{Dot}

abbrev pub coded_dot : Coded Dot
coded_dot = code_by (ℕ × (ℕ × (ℕ × ℕ))) (coded× coded_ℕ (coded× coded_ℕ (coded× coded_ℕ coded_ℕ)))
    (λ d. (d.tx.site, (d.tx.part, (d.tx.time, d.index))))
    (λ p. record { tx = record { site = p.0; part = p.1.0; time = p.1.1.0 }; index = p.1.1.1 })
    (λ _. refl)
