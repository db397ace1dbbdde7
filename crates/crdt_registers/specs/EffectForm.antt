-- What the effects of both registers have in common.
use Rattle.std.specs.Prelude.{Bool, true}
use Rattle.crdt_core.specs.declared.kind.Kind.{Kind}

-- every effect is one of the kind
abbrev pub is_of_kind : {E : Type 0} → Kind → E → Bool
is_of_kind k e = true
