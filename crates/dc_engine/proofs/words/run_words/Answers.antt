use Rattle.std.proofs.Common.{◌≡◌, drop, ap, ◌∙◌}
use Rattle.std.specs.Prelude.{map, string_bytes}
use Rattle.dc_engine.specs.Words.{asked}
use Rattle.dc_engine.proofs.commands.Asked.{if_some_along, if_none_along}
use Rattle.dc_engine.proofs.words.run_words.Goals as goal

pub returns-clause-played : goal.returns-clause-played
returns-clause-played g c =
    let words : map (λ text. text.now) c.as_slice.result.now ≡ map string_bytes (drop 1 c.args.words.now) = (λ i. map (λ text. text.now) (c.as_slice.ensures.value i)) ∙ c.in_ok-texts.ensures ∙ ap (map string_bytes) c.behind_name.ensures in
    if_some_along _ _ _ (ap asked words) c.run-status.ensures.played

pub returns-clause-usage : goal.returns-clause-usage
returns-clause-usage g c =
    let words : map (λ text. text.now) c.as_slice.result.now ≡ map string_bytes (drop 1 c.args.words.now) = (λ i. map (λ text. text.now) (c.as_slice.ensures.value i)) ∙ c.in_ok-texts.ensures ∙ ap (map string_bytes) c.behind_name.ensures in
    if_none_along _ _ _ (ap asked words) c.run-status.ensures.usage

pub returns-clause-told : goal.returns-clause-told
returns-clause-told g c =
    let words : map (λ text. text.now) c.as_slice.result.now ≡ map string_bytes (drop 1 c.args.words.now) = (λ i. map (λ text. text.now) (c.as_slice.ensures.value i)) ∙ c.in_ok-texts.ensures ∙ ap (map string_bytes) c.behind_name.ensures in
    if_some_along _ _ _ (ap asked words) c.run-status.ensures.told

pub returns-clause-sure : goal.returns-clause-sure
returns-clause-sure g c =
    let words : map (λ text. text.now) c.as_slice.result.now ≡ map string_bytes (drop 1 c.args.words.now) = (λ i. map (λ text. text.now) (c.as_slice.ensures.value i)) ∙ c.in_ok-texts.ensures ∙ ap (map string_bytes) c.behind_name.ensures in
    if_some_along _ _ _ (ap asked words) c.run-status.ensures.sure
