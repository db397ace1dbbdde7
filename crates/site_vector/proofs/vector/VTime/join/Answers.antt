use Rattle.std.proofs.Common.{◌≡◌, length, max, take, refl, sym, ap, ◌∙◌}
use Rattle.site_vector.proofs.Along.{along, along_padded, along_view, same_width, join_along}
use Rattle.site_vector.proofs.vector.VTime.join.Goals as goal

pub invariant_of-result : goal.invariant_of-result
invariant_of-result c =
    let w = same_width _ _ _ _ c.self.invariant c.o.invariant (ap length c.self.view_is ∙ c.requires ∙ sym (ap length c.o.view_is)) in
    let made : c.greatest.result ≡ along max c.self.inside.entries c.o.inside.entries = c.greatest.ensures ∙ join_along _ _ in
    rw made (along_padded max refl c.self.inside.width c.o.inside.width c.self.inside.entries c.o.inside.entries c.self.invariant c.o.invariant w)

pub returns : goal.returns
returns c =
    let w = same_width _ _ _ _ c.self.invariant c.o.invariant (ap length c.self.view_is ∙ c.requires ∙ sym (ap length c.o.view_is)) in
    let made : c.greatest.result ≡ along max c.self.inside.entries c.o.inside.entries = c.greatest.ensures ∙ join_along _ _ in
    rw made (along_view max c.self.inside.width c.o.inside.width c.self.inside.entries c.o.inside.entries w ∙ ap (λ l. along max l (take c.o.inside.width c.o.inside.entries)) c.self.view_is ∙ ap (along max c.args.self.now) c.o.view_is ∙ sym (join_along c.args.self.now c.args.o.now))
