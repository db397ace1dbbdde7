-- Numbers, vectors and objects as forms of what their types keep.
use Rattle.std.specs.Prelude.{ℕ, Bool, true, ◌&&◌, List, refl}
use Rattle.field_codec.specs.Spelling.{number, is_number, is_text}
use Rattle.field_codec.specs.Reading.{Read, number_at}
use Rattle.field_codec.specs.Lawful.{IsForm}
use Rattle.field_codec.specs.FormLaws.{IsWidth, number_form, both_true, and_true}
use Rattle.crdt_core.specs.declared.kind.Kind.{Kind}
use Rattle.crdt_core.specs.Spelled.{vector, is_vector, vector_at, is_object, object, object_at}
use Rattle.crdt_core.specs.SpelledLaws.{vector_form, object_form}

-- to put what its type keeps asks for nothing
unasked : {V : Type 0} (is_spelled : V → Bool) (spelling : V → List ℕ) (reading : List ℕ → ℕ → Read V)
    → IsForm is_spelled (λ _. true) is_spelled spelling reading → IsForm (λ v. true) is_spelled is_spelled spelling reading
unasked is_spelled spelling reading form = record { found = form.found; again = form.again; fit = λ v good. refl; all = λ v can kept short. kept; ends = form.ends; tells = form.tells }

pub any_number_form : (width : ℕ) → IsWidth width → IsForm (λ n. true) (is_number width) (is_number width) (number width) (number_at width)
any_number_form width w = unasked (is_number width) (number width) (number_at width) (number_form width w)

pub any_vector_form : IsForm (λ v. true) is_vector is_vector vector vector_at
any_vector_form = unasked is_vector vector vector_at vector_form

-- an object is asked for its kind alone
pub any_object_form : (has : Kind → Bool) → IsForm (λ o. has o.kind) (λ o. is_text o.bucket && is_text o.key) (is_object has) object (object_at has)
any_object_form has = let form = object_form has in record {
  found = form.found;
  again = form.again;
  fit = λ o good. (both_true (is_text o.key) (has o.kind) (both_true (is_text o.bucket) (is_text o.key && has o.kind) good).1).1;
  all = λ o can kept short.
      let two = both_true (is_text o.bucket) (is_text o.key) kept in
      and_true (is_text o.bucket) (is_text o.key && has o.kind) two.0 (and_true (is_text o.key) (has o.kind) two.1 can);
  ends = form.ends;
  tells = form.tells;
}
