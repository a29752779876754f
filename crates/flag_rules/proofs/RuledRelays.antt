-- Relays and their rulings, taken apart and put together.
use Rattle.std.proofs.{Common.{◌≡◌, List, [], ◌∷◌, length, map, refl, sym, ap, ap₂, subst, ◌∙◌}, lemmas.List.length-map}
use Rattle.std.specs.Prelude.{All}
use Rattle.flag_rules.specs.declared.{relay.{RelayFacts.RelayFacts, RuledRelay.RuledRelay}, ruling.Ruling.Ruling}
use Rattle.flag_rules.specs.{Relays.ruled_relays, Rules.AreRulings}

facts_again : (ruled : List RuledRelay) → ruled_relays (map (λ relay. relay.facts) ruled)
    (map (λ relay. relay.ruling) ruled) ≡ ruled
facts_again [] = refl
facts_again (relay ∷ rest) = ap (λ (l : List RuledRelay). relay ∷ l) (facts_again rest)

-- facts and rulings that were taken from ruled relays make them again
pub ruled_again : (ruled : List RuledRelay) (relays : List RelayFacts) (rulings : List Ruling)
    → map (λ relay. relay.facts) ruled ≡ relays → rulings ≡ map (λ relay. relay.ruling) ruled
    → ruled_relays relays rulings ≡ ruled
ruled_again ruled relays rulings facts all = ap₂ ruled_relays (sym facts) all ∙ facts_again ruled

-- what holds of each ruled relay holds of the rulings
pub are_rulings : (Holds : RelayFacts → Ruling → Type 0) (ruled : List RuledRelay) (relays : List RelayFacts)
    (rulings : List Ruling)
    → map (λ relay. relay.facts) ruled ≡ relays → rulings ≡ map (λ relay. relay.ruling) ruled
    → All (λ relay. Holds relay.facts relay.ruling) ruled → AreRulings Holds relays rulings
are_rulings Holds ruled relays rulings facts all each = record {
  one_each =
      ap (λ (l : List Ruling). length l) all ∙ length-map ruled (λ relay. relay.ruling)
      ∙ sym (length-map ruled (λ relay. relay.facts)) ∙ ap (λ (l : List RelayFacts). length l) facts;
  of_each = subst (λ (l : List RuledRelay). All (λ relay. Holds relay.facts relay.ruling) l)
      (sym (ruled_again ruled relays rulings facts all)) each;
}
