-- How texts are told from others.
use Rattle.std.specs.Prelude.{ℕ, List, refl}
use Rattle.std.specs.Coded.{Coded, code_by, coded_list, coded_ℕ}

abbrev pub coded_text : Coded (List ℕ)
coded_text = coded_list coded_ℕ

abbrev pub coded_nothing : Coded (Unit {0})
coded_nothing = code_by ℕ coded_ℕ (λ _. 0) (λ _. tt) (λ _. refl)
