-- What is said of a result, once its variant is known.
use Rattle.std.proofs.Common.{◌≡◌, subst}
use Rattle.std.specs.Prelude.{Result, Ok, Err, IfOk, IfErr, OnErr}

module _ {A B : Type 0} where
  pub if_ok : (P : A → Type 0) (r : Result A B) (x : A) → r ≡ Ok x → IfOk r P → P x
  if_ok P r x is h = subst (λ o. IfOk o P) is h

  pub if_err : (P : B → Type 0) (r : Result A B) (e : B) → r ≡ Err e → IfErr r P → P e
  if_err P r e is h = subst (λ o. IfErr o P) is h

  pub bad_ok : (x : A) (e : B) → (let o : Result A B = Ok x in o ≡ Err e) → ⊥
  bad_ok x e h = cc

  pub ok_map : (P Q : A → Type 0) (r : Result A B) → ((x : A) → P x → Q x) → IfOk r P → IfOk r Q
  ok_map P Q (Ok x) f h = f x h
  ok_map P Q (Err e) f h = tt

  pub err_map : (P Q : B → Type 0) (r : Result A B) → ((e : B) → P e → Q e) → IfErr r P → IfErr r Q
  err_map P Q (Ok x) f h = tt
  err_map P Q (Err e) f h = f e h

  pub on_err_map : (P Q : Type 0) (r : Result A B) → (P → Q) → OnErr r P → OnErr r Q
  on_err_map P Q (Ok x) f h = tt
  on_err_map P Q (Err e) f h = f h

  pub on_err : (P : Type 0) (r : Result A B) (e : B) → r ≡ Err e → OnErr r P → P
  on_err P r e is h = subst (λ o. OnErr o P) is h
