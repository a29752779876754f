-- A relay of a consensus, row by row: its rows stand in the order of its text, which is not that of its table.
use Rattle.std.proofs.Common.{◌≡◌, ℕ, ◌≤◌, true, false, List, [], ◌∷◌, Option, Some, None, Result, Ok, refl, ap}
use Rattle.std.specs.Prelude.{IfSome, is_some}
use Rattle.dir_bytes.specs.FieldTexts.{base64_text}
use Rattle.dir_values.specs.{FlagSets.set_text, declared.digest.Digest2.Digest2}
use Rattle.frame_terms.specs.{Rows.row, declared.{keyword.Keyword.Keyword, row.Count.TheVariants.{Many, One, Optional}}}
use Rattle.frame_terms.specs.declared.row.Row.{Row}
use Rattle.frame_terms.specs.declared.keyword.Keyword.TheVariants as the
use Rattle.frame_values.specs.{Arguments.next, declared.{found.Span.Span, values.Value.Value}}
use Rattle.frame_values.specs.declared.values.Value.TheVariants as value
use Rattle.frame_laws.proofs.{Both.both_hold, RowCounts.{said_none, said_once}, RowValues.{own_entry, row_if, said_if}}
use Rattle.frame_laws.proofs.{RowValues.text_entry, SaidRows.{AreSaid, row_none, row_once}, WrittenItems.start_of}
use Rattle.relay_entries.specs.{Lines.lifted_entry_value, declared.said.{EntryValue.EntryValue, RelayLine.RelayLine}}
use Rattle.relay_entries.specs.declared.said.EntryKind.TheVariants as entry
use Rattle.relay_entries.specs.declared.said.EntryValue.TheVariants as said
use Rattle.group_laws.specs.{Ranges.IsAddressInRange, LineAgain.AreFlagsInRange}
use Rattle.group_laws.proofs.{WrittenAddresses.address_again, WrittenDelays.flags_again, SourceRows.said_rest_if}
use Rattle.consensus_terms.specs.{Routers.is_listed, declared.flavour.Flavour.{Flavour, TheVariants.{Ns, Microdesc}}}
use Rattle.consensus_terms.specs.declared.router.{Bandwidth.Bandwidth, Routerline.Routerline}
use Rattle.consensus_frame.specs.{Tables.{consensus_tables, m_row}, declared.rows.ConsensusKind.ConsensusKind}
use Rattle.consensus_frame.specs.declared.value.ConsensusValue.{ConsensusValue}
use Rattle.consensus_frame.specs.declared.rows.ConsensusKind.TheVariants as kind
use Rattle.consensus_frame.specs.declared.rows.ConsensusSection.TheVariants as section
use Rattle.consensus_frame.specs.declared.value.ConsensusValue.TheVariants as own
use Rattle.consensus_laws.specs.{Again.{IsMicroInRange, IsRouterInRange}, Items.{p_text, w_text}}
use Rattle.consensus_laws.proofs.ConsensusItems.{ConsensusEntry, ConsensusPart, ConsensusRow, IsSaidHere}
use Rattle.consensus_laws.proofs.{ConsensusItems.{SuitsConsensus, has_rests, says, suits}, RelayLines.bandwidth_again}
use Rattle.consensus_laws.proofs.RelayLines.{micro_digest_again, relay_said, router_again, router_text}

-- ---- its items

-- what a consensus says where an entry says this
abbrev lifts : {A : Type 0} → (A → Value EntryValue) → Result A ℕ → Result (Value ConsensusValue) ℕ
lifts of read = next (next read (λ found. Ok (of found))) (λ found. Ok (lifted_entry_value own.Entry found))

-- who it is
abbrev pub router_entry : Flavour → Routerline → ConsensusEntry
router_entry flavour r =
    own_entry the.R (router_text flavour r)
    (λ p. own.Entry (said.Relay (relay_said flavour (start_of p the.R (router_text flavour r)) r)))

-- its microdescriptor
abbrev pub m_entry : Digest2 → ConsensusEntry
m_entry digest = own_entry the.M (base64_text digest.0) (λ p. own.MicroDigest digest)

-- the same in a flavour that has it
abbrev pub m_entries : Flavour → Option Digest2 → List ConsensusEntry
m_entries Ns digest = []
m_entries Microdesc None = []
m_entries Microdesc (Some digest) = m_entry digest ∷ []

-- its bandwidth
abbrev pub w_entry : Bandwidth → ConsensusEntry
w_entry w = own_entry the.W (w_text w) (λ p. own.Bandwidth w)

abbrev pub w_entries : Option Bandwidth → List ConsensusEntry
w_entries None = []
w_entries (Some w) = w_entry w ∷ []

-- ---- its rows

abbrev pub router_row : Row ConsensusKind
router_row = row the.R One kind.Relay

abbrev pub a_row : Row ConsensusKind
a_row = row the.A Many (kind.Entry entry.Address)

abbrev pub m_said : Flavour → Option Digest2 → ConsensusRow
m_said flavour digest = record { row = m_row flavour; entries = m_entries flavour digest }

abbrev pub flags_row : List (List ℕ) → ConsensusRow
flags_row flags = row_once (row the.S One (kind.Entry entry.Flags)) (text_entry the.S (set_text flags))

abbrev pub rest_row : Keyword → Option (List ℕ) → ConsensusRow
rest_row keyword text = row_if (row keyword Optional kind.Rest) text

abbrev pub w_said : Option Bandwidth → ConsensusRow
w_said w = record { row = row the.W Optional kind.Bandwidth; entries = w_entries w }

-- its rows behind the first one, in the order of its text
abbrev pub router_rows : Flavour → Routerline → List ConsensusRow
router_rows flavour r =
    row_if a_row r.a ∷ m_said flavour r.m ∷ flags_row r.flags ∷ rest_row the.V r.v ∷ rest_row the.Pr r.pr
    ∷ w_said r.w ∷ rest_row the.P (p_text flavour r.p) ∷ row_none (row the.Id Optional (kind.Entry entry.Ed)) ∷ []

abbrev pub router_section : Flavour → Routerline → ConsensusPart
router_section flavour r = record {
  name = section.Router;
  first = router_row;
  opener = router_entry flavour r;
  middle = router_rows flavour r;
}

-- ---- that each suits its row

module _ (flavour : Flavour) where
  pub suits_router : (r : Routerline) → IsRouterInRange flavour r
      → SuitsConsensus flavour router_row (router_entry flavour r)
  suits_router r are =
      suits flavour the.R One kind.Relay (router_entry flavour r) refl (λ p. refl)
      (λ across p. ap (says (λ (relay : RelayLine). value.Own (own.Entry (said.Relay relay))))
      (router_again flavour p the.R r are))

  suits_address : (text : List ℕ) → IsAddressInRange text → SuitsConsensus flavour a_row (text_entry the.A text)
  suits_address text are =
      suits flavour the.A Many (kind.Entry entry.Address) (text_entry the.A text) refl (λ p. refl)
      (λ across p. ap (lifts (λ (found : Span). value.Text found)) (address_again p the.A text are))

  said_flags : (flags : List (List ℕ)) → AreFlagsInRange flags → IsSaidHere flavour (flags_row flags)
  said_flags flags are =
      said_once (consensus_tables flavour) _ _
      (suits flavour the.S One (kind.Entry entry.Flags) (text_entry the.S (set_text flags)) refl (λ p. refl)
      (λ across p. ap (lifts (λ (found : Span). value.Text found)) (flags_again p the.S flags are).0))

  said_w : (w : Option Bandwidth) → IfSome w (λ (b : Bandwidth). b.value ≤ 4294967295) → IsSaidHere flavour (w_said w)
  said_w None are = said_none (consensus_tables flavour) (row the.W Optional kind.Bandwidth) refl
  said_w (Some w) are =
      said_once (consensus_tables flavour) (row the.W Optional kind.Bandwidth) (w_entry w)
      (suits flavour the.W Optional kind.Bandwidth (w_entry w) refl (λ p. refl)
      (λ across p. ap (says (λ (found : Bandwidth). value.Own (own.Bandwidth found))) (bandwidth_again p the.W w are)))

-- a microdescriptor stands where the flavour lists the relay
said_m : (flavour : Flavour) (digest : Option Digest2) → IsMicroInRange flavour digest
    → (flavour ≡ Microdesc → is_some digest ≡ true) → IsSaidHere flavour (m_said flavour digest)
said_m Ns digest are some = said_none (consensus_tables Ns) (row the.M Many (kind.Entry entry.Micro)) refl
said_m Microdesc None are some = absurd (no (some refl))
  where
    no : false ≡ true → ⊥
    no is = cc
said_m Microdesc (Some digest) are some =
    said_once (consensus_tables Microdesc) (row the.M One kind.MicroDigest) (m_entry digest)
    (suits Microdesc the.M One kind.MicroDigest (m_entry digest) refl (λ p. refl)
    (λ across p. ap (says (λ (found : Digest2). value.Own (own.MicroDigest found)))
    (micro_digest_again p the.M digest are)))

has_m : (flavour : Flavour) (r : Routerline) → is_listed flavour r ≡ true → flavour ≡ Microdesc → is_some r.m ≡ true
has_m Ns r listed is = absurd cc
has_m Microdesc r listed is = listed

pub router_said : (flavour : Flavour) (r : Routerline) → IsRouterInRange flavour r → is_listed flavour r ≡ true
    → AreSaid (consensus_tables flavour) (router_rows flavour r)
router_said flavour r are listed =
    both_hold (said_if (consensus_tables flavour) a_row r.a IsAddressInRange refl are.a (suits_address flavour))
    (both_hold (said_m flavour r.m are.m (has_m flavour r listed))
    (both_hold (said_flags flavour r.flags are.flags)
    (both_hold (said_rest_if (has_rests flavour) the.V r.v)
    (both_hold (said_rest_if (has_rests flavour) the.Pr r.pr)
    (both_hold (said_w flavour r.w are.w)
    (both_hold (said_rest_if (has_rests flavour) the.P (p_text flavour r.p))
    (both_hold (said_none (consensus_tables flavour) (row the.Id Optional (kind.Entry entry.Ed)) refl) tt)))))))
