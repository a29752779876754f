-- The document of signatures over what is computed.
use Rattle.std.{proofs.Common.{◌≡◌, ◌∙◌, ap, ℕ, List, Option, Some}, specs.Prelude.option_map}
use Rattle.consensus_terms.specs.declared.consensus.Consensus.{Consensus}
use Rattle.detached_doc.specs.{declared.detached.Detached.Detached, Texts.detached_text}
use Rattle.period_terms.specs.declared.state.State.{State}
use Rattle.checked_sigs.specs.Next.{signatures_over, next_signatures_of}

-- a text of the signatures over what is computed is their document
pub written : (s : State) (c : Consensus) (d : Detached) (bytes text : List ℕ) → Some c ≡ s.computed
    → d ≡ signatures_over s c → bytes ≡ detached_text d → text ≡ bytes → Some text ≡ next_signatures_of s
written s c d bytes text i q p t =
    ap Some (t ∙ p ∙ ap detached_text q)
    ∙ ap (λ (computed : Option Consensus). option_map (λ (x : Consensus). detached_text (signatures_over s x)) computed) i
