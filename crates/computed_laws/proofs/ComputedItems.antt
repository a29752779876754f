-- What is computed of votes that can be read may be written, but for limits, and within these it is read again.
use Rattle.std.proofs.{Common.{ℕ, List, [], ◌∷◌, Option, Some, None, map, refl}, lemmas.List.Elements.All-cons}
use Rattle.std.proofs.lemmas.List.Elements.{All-filter, All-head, All-map, All-nil, All-tail, All-weaker}
use Rattle.std.specs.{Prelude.{All, IfSome, option_map}, List.join_with_byte}
use Rattle.item_terms.specs.Bytes.{space}
use Rattle.dirdoc_grammar.specs.Writing.{IsLineRest}
use Rattle.grammar_laws.{specs.Written.IsItem, proofs.LineRests.rest_of_nothing}
use Rattle.frame_terms.specs.declared.keyword.Keyword.TheVariants as the
use Rattle.bw_weights.specs.declared.position_weights.Weights.{Weights}
use Rattle.vote_terms.specs.Votes.{ReadVote}
use Rattle.vote_laws.specs.Again as vote_laws
use Rattle.consensus_terms.specs.{Flavours.{facts_in, moment_of_all, router_at}, Routers.is_listed, Signed.in_order}
use Rattle.consensus_terms.specs.{Signed.signature_item, Weights.weight_words, declared.consensus.SourceLine.SourceLine}
use Rattle.consensus_terms.specs.declared.{router.Routerline.Routerline, signature.SignatureLine.SignatureLine}
use Rattle.consensus_doc.specs.Reading.{max_consensus}
use Rattle.consensus_laws.specs.{Again.{IsAuthorityInRange, IsRouterInRange, IsSignatureInRange}, Items.consensus_items}
use Rattle.consensus_laws.{specs.Items.{listed, router_items, source_items}, proofs.SignatureOrder.each_in_order}
use Rattle.bandwidth_rules.specs.Limits.{unmeasured_limit}
use Rattle.compute_terms.specs.{Consensuses.{consensus, source_of}, Lists.listed_params, Methods.chosen_method}
use Rattle.compute_terms.specs.Routers.{routers}
use Rattle.vote_laws.proofs.MayWrite.{items_writable}
use Rattle.computed_laws.specs.{Computed.{AreVotesInRange, IsVoteInRange, signed_consensus}, WithinLimits.AllFillLines}
use Rattle.computed_laws.specs.WithinLimits.{ComputedItemsAreItems, FillsLines, IsSignature}
use Rattle.computed_laws.specs.WithinLimits.{ConsensusesOfReadableVotesAreReadAgain}
use Rattle.computed_laws.{specs.WithinLimits.ConsensusesWithinLimitsAreReadAgain, proofs.ChosenTexts.contacts_fill}
use Rattle.computed_laws.proofs.{ChosenTexts.relays_fill, ComputedFacts.{facts_in_range, readable_in_range}}
use Rattle.computed_laws.proofs.{ComputedFacts.texts_again, FactItems.{HasTexts, preamble_are, router_are}}
use Rattle.computed_laws.proofs.{FactItems.{signature_is, source_are}, SaidFacts.facts_said, Forms.{AreItems, after}}
use Rattle.computed_laws.proofs.{Forms.{bare_is, each_are, if_are, ◌&◌}, VoteLines.readable_fill}
use Rattle.computed_laws.proofs.WeightWords.{weights_fill}

-- ---- the items

-- what follows from two facts of each member
all_from_two_facts : {X : Type 0} (P Q R : X → Type 0) → ((x : X) → P x → Q x → R x) → (list : List X) → All P list → All Q list → All R list
all_from_two_facts P Q R each [] first second = All-nil R
all_from_two_facts P Q R each (x ∷ rest) first second =
    All-cons R x rest (each x (All-head P x rest first) (All-head Q x rest second))
    (all_from_two_facts P Q R each rest (All-tail P x rest first) (All-tail Q x rest second))

signatures_are : (lines : List SignatureLine) → All IsSignature lines → AreItems (map signature_item (in_order lines))
signatures_are lines signed_ = record {
  each = All-map IsItem signature_item (in_order lines)
      (All-weaker IsSignature (λ (s : SignatureLine). IsItem (signature_item s)) (λ s is. signature_is s is.says is.bytes)
      (in_order lines) (each_in_order IsSignature lines signed_));
}

abbrev weights_text : Weights → List ℕ
weights_text weights = join_with_byte space (weight_words weights)

weights_filled : (weights : Option Weights) → IfSome (option_map weights_text weights) IsLineRest
weights_filled None = tt
weights_filled (Some weights) = weights_fill weights

pub computed_items : ComputedItemsAreItems
computed_items flavour newest roster votes lines in_range fills signed_ =
    let c = consensus newest roster votes in
    let said = facts_in flavour c.facts in
    let are = facts_said flavour c.facts (facts_in_range flavour newest roster votes in_range) in
    let at : Routerline → Routerline = router_at (moment_of_all flavour c.facts.method) in
    let method = chosen_method newest votes in
    let limit = unmeasured_limit method (listed_params roster votes) in
    let relays : List Routerline = map at (routers roster method limit votes) in
    let sources : All (λ (s : SourceLine). AreItems (source_items s)) (map source_of votes) =
    all_from_two_facts IsAuthorityInRange (λ (s : SourceLine). IfSome s.contact IsLineRest)
    (λ (s : SourceLine). AreItems (source_items s)) (λ s is contact. source_are s is contact) (map source_of votes)
    are.sources (contacts_fill votes fills) in
    let each : All (λ (r : Routerline). AreItems (router_items flavour r)) (listed flavour relays) =
    all_from_two_facts (IsRouterInRange flavour) HasTexts (λ (r : Routerline). AreItems (router_items flavour r))
    (λ r is texts. router_are flavour r is texts) (listed flavour relays) are.routers
    (All-filter (is_listed flavour) HasTexts relays
    (All-map HasTexts at (routers roster method limit votes)
    (All-weaker HasTexts (λ (r : Routerline). HasTexts (at r))
    (λ r is. record { version = is.version; protocols = is.protocols; policy = is.policy })
    (routers roster method limit votes) (relays_fill roster method limit votes fills)))) in
    let items =
    preamble_are flavour said are & each_are source_items (map source_of votes) sources
    & each_are (router_items flavour) (listed flavour relays) each
    & after (bare_is the.DirectoryFooter [] (record { first = refl; each = refl }) rest_of_nothing)
    (if_are the.BandwidthWeights (option_map weights_text c.weights) (record { first = refl; each = refl })
    (weights_filled c.weights))
    & signatures_are lines signed_ in
    items.each

-- ---- within limits

pub again_within : ConsensusesWithinLimitsAreReadAgain
again_within flavour newest roster votes lines are fills signed_ within =
    texts_again flavour newest roster votes lines are
    (All-weaker IsSignature IsSignatureInRange (λ s is. is.says) lines signed_)
    (items_writable max_consensus 0 (consensus_items (signed_consensus flavour newest roster votes lines))
    (computed_items flavour newest roster votes lines are fills signed_) within)

pub readable_again : ConsensusesOfReadableVotesAreReadAgain
readable_again flavour newest roster votes lines readable signed_ within =
    let are : AreVotesInRange votes =
    All-weaker (λ (vote : ReadVote). vote_laws.IsInRange vote.says) (λ (vote : ReadVote). IsVoteInRange vote.says)
    (λ vote is. readable_in_range vote.says is) votes readable in
    let fills : AllFillLines votes =
    All-weaker (λ (vote : ReadVote). vote_laws.IsInRange vote.says) (λ (vote : ReadVote). FillsLines vote.says)
    (λ vote is. readable_fill vote.says is) votes readable in
    again_within flavour newest roster votes lines are fills signed_ within
