-- What has no kinds keeps every law.
use Rattle.std.proofs.Common.{true, false, [], None, refl}
use Rattle.std.specs.Prelude.{Err}
use Rattle.std.proofs.lemmas.Bool.{false≢true}
use Rattle.field_codec.specs.declared.error.TakeError.TheVariants.{Bad}
use Rattle.crdt_core.specs.declared.value.Value.TheVariants.{Flag}
use Rattle.crdt_core.specs.Law.{KeepsLaw}
use Rattle.crdt_core.specs.InMaps.{KeepsInMaps}
use Rattle.crdt_core.specs.Resets.{ResetsWhatIsLeft}
use Rattle.crdt_core.specs.EffectForm.{SpellsEffects}
use Rattle.crdt_core.specs.NamedDots.{NamesAreSpelled}

pub nothing_law : KeepsLaw {S = Unit {0}} {E = Unit {0}} (λ k. false) (λ k p. false) (λ k. tt) (λ s d e. tt) (λ k s p a n. tt) (λ s. Flag false) (λ e. None) (λ k us. Flag false) (λ e d. false) (λ s d. false)
nothing_law = record {
  means = λ k us has. absurd (false≢true has);
  stamps = λ k u us has. absurd (false≢true has);
  confluent = λ k us vs has. absurd (false≢true has);
  orderless = λ k us vs has. absurd (false≢true has);
  unread = λ k s t p a n has. absurd (false≢true has);
  steps = λ k has. absurd (false≢true has);
  nameable = λ k us d has. absurd (false≢true has);
}

pub nothing_in_maps : KeepsInMaps {S = Unit {0}} {E = Unit {0}} (λ k. false) (λ k p. false) (λ k. tt) (λ s d e. tt) (λ k s p a n. tt) (λ s. true)
nothing_in_maps = record {
  first_blank = λ k has. refl;
  undoes_none = λ k s t d n has. absurd (false≢true has);
  shallow = λ k. refl;
  flat = λ k p has out. refl;
}

pub nothing_resets : ResetsWhatIsLeft {S = Unit {0}} {E = Unit {0}} (λ k. false) (λ k p. false) (λ k. tt) (λ s d e. tt) (λ k s p a n. tt) (λ s. true) (λ e d. false)
nothing_resets = record {
  none_left = λ k s n d has. absurd (false≢true has);
  some_left = λ k us n has. absurd (false≢true has);
}

abbrev pub nothing_spells : SpellsEffects {E = Unit {0}} (λ k. false) (λ k e. true) (λ e. true) (λ e. true) (λ e. true) (λ e. []) (λ k bytes at. Err (Bad at))
nothing_spells = record { form = λ k has. absurd (false≢true has) }

pub nothing_named : NamesAreSpelled {E = Unit {0}} (λ e. true) (λ e d. false) (λ e. []) (λ e. [])
nothing_named = record { exact = λ e d can. refl; lies = λ e d can h. absurd (false≢true h) }
