-- The detached signatures of what an authority has computed (dir-spec, "Serving and fetching detached signatures").
use Rattle.std.specs.Prelude.{ℕ, List, Option, option_map}
use Rattle.consensus_terms.specs.declared.{consensus.Consensus.Consensus, flavour.Flavour.TheVariants.{Ns, Microdesc}}
use Rattle.detached_doc.specs.{declared.detached.Detached.Detached, Held.held_signatures, Texts.detached_text}
use Rattle.period_terms.specs.{declared.state.State.State, States.digest_of}

-- the signatures over a consensus that an authority holds: its times, the digests of both flavours, and the lines of both
abbrev pub signatures_over : State → Consensus → Detached
signatures_over state c = held_signatures c.facts (record { 0 = digest_of Ns c }) (record { 0 = digest_of Microdesc c })
    state.ns_lines state.micro_lines

-- their document, where there are texts
abbrev pub next_signatures_of : State → Option (List ℕ)
next_signatures_of state = option_map (λ c. detached_text (signatures_over state c)) state.computed
