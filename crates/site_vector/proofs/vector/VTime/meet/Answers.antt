use Rattle.std.proofs.Common.{◌≡◌, length, min, take, refl, sym, ap, ◌∙◌}
use Rattle.site_vector.proofs.Along.{along, along_padded, along_view, same_width, meet_along}
use Rattle.site_vector.proofs.vector.VTime.meet.Goals as goal

pub invariant_of-result : goal.invariant_of-result
invariant_of-result c =
    let w = same_width _ _ _ _ c.self.invariant c.o.invariant (ap length c.self.view_is ∙ c.requires ∙ sym (ap length c.o.view_is)) in
    let made : c.least.result ≡ along min c.self.inside.entries c.o.inside.entries = c.least.ensures ∙ meet_along _ _ in
    rw made (along_padded min refl c.self.inside.width c.o.inside.width c.self.inside.entries c.o.inside.entries c.self.invariant c.o.invariant w)

pub returns : goal.returns
returns c =
    let w = same_width _ _ _ _ c.self.invariant c.o.invariant (ap length c.self.view_is ∙ c.requires ∙ sym (ap length c.o.view_is)) in
    let made : c.least.result ≡ along min c.self.inside.entries c.o.inside.entries = c.least.ensures ∙ meet_along _ _ in
    rw made (along_view min c.self.inside.width c.o.inside.width c.self.inside.entries c.o.inside.entries w ∙ ap (λ l. along min l (take c.o.inside.width c.o.inside.entries)) c.self.view_is ∙ ap (along min c.args.self.now) c.o.view_is ∙ sym (meet_along c.args.self.now c.args.o.now))
