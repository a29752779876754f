-- What is read of a relay of a consensus that was written says what its flavour has of it.
use Rattle.std.proofs.Common.{◌≡◌, ℕ, ◌+◌, List, [], ◌∷◌, Option, Some, None, refl, sym, ap, ◌∙◌, arith}
use Rattle.std.specs.{Prelude.decimal, List.join_with_byte}
use Rattle.dir_bytes.specs.FieldTexts.{address_text, base64_text, moment_text}
use Rattle.dir_values.specs.declared.digest.Digest2.{Digest2}
use Rattle.frame_terms.specs.declared.document.Taken.{Taken}
use Rattle.frame_terms.specs.declared.keyword.Keyword.TheVariants as the
use Rattle.frame_values.specs.{Fields.span, Parts.{moment_of, part}, Values.item_at, declared.values.Value.Value}
use Rattle.frame_laws.proofs.{ReadRows.{AreRead, IsRead, item_of_row}, RowValues.text_if_said, Sections.rows_in}
use Rattle.frame_laws.proofs.StandingParts.{once, part_of_part, rest_part}
use Rattle.consensus_terms.specs.declared.flavour.Flavour.{Flavour, TheVariants.{Ns, Microdesc}}
use Rattle.consensus_terms.specs.declared.router.{Bandwidth.Bandwidth, Routerline.Routerline}
use Rattle.consensus_frame.specs.declared.value.ConsensusValue.{ConsensusValue}
use Rattle.consensus_doc.specs.{Drafts.{router_of, summary_of}, Saying.{bandwidth_in, micro_digest_in, relay_in}}
use Rattle.consensus_laws.specs.{Again.{IsRouterInRange, router_as_read}, Items.p_text}
use Rattle.consensus_laws.proofs.{ConsensusSays.{ConsensusTaken, flags_said}, RelayLines.{digest_said, router_text}}
use Rattle.consensus_laws.proofs.RouterRows.{m_said, rest_row, router_section, w_said}

-- its nickname stands in front of its line
nickname_stands : (flavour : Flavour) (bytes : List ℕ) (start : ℕ) (r : Routerline)
    → part bytes (span start (router_text flavour r)) ≡ router_text flavour r
    → part bytes (span start r.nickname) ≡ r.nickname
nickname_stands flavour bytes start r there = by flavour there
  where
    front : start + 0 ≡ start
    front = omega arith

    by : (f : Flavour) → part bytes (span start (router_text f r)) ≡ router_text f r
        → part bytes (span start r.nickname) ≡ r.nickname
    by Ns there =
        let back =
        32 ∷ join_with_byte 32
        (base64_text r.identity.0 ∷ base64_text r.digest.0 ∷ moment_text r.published ∷ address_text r.ip
        ∷ decimal r.or_port ∷ decimal r.dir_port ∷ []) in
        sym (ap (λ (n : ℕ). part bytes (span n r.nickname)) front) ∙ part_of_part bytes start [] r.nickname back there
    by Microdesc there =
        let back =
        32 ∷ join_with_byte 32
        (base64_text r.identity.0 ∷ moment_text r.published ∷ address_text r.ip
        ∷ decimal r.or_port ∷ decimal r.dir_port ∷ []) in
        sym (ap (λ (n : ℕ). part bytes (span n r.nickname)) front) ∙ part_of_part bytes start [] r.nickname back there

-- the digest of a microdescriptor as a flavour has it
abbrev m_as_read : Flavour → Option Digest2 → Option Digest2
m_as_read Ns digest = None
m_as_read Microdesc digest = digest

module _ {limit : ℕ} {bytes : List ℕ} {taken : List (Taken (Value ConsensusValue))} {place : ℕ} where
  m_is : (flavour : Flavour) (digest : Option Digest2) → IsRead limit bytes taken place (m_said flavour digest)
      → micro_digest_in (item_at taken the.M) ≡ m_as_read flavour digest
  m_is Ns digest read = ap micro_digest_in (item_of_row read)
  m_is Microdesc None read = ap micro_digest_in (item_of_row read)
  m_is Microdesc (Some digest) read = ap micro_digest_in (item_of_row read)

  summary_is : (flavour : Flavour) (r : Routerline)
      → IsRead limit bytes taken place (rest_row the.P (p_text flavour r.p))
      → summary_of flavour bytes taken ≡ p_text flavour r.p
  summary_is Ns r read = text_if_said _ r.p read
  summary_is Microdesc r read = refl

  w_is : (w : Option Bandwidth) → IsRead limit bytes taken place (w_said w) → bandwidth_in (item_at taken the.W) ≡ w
  w_is None read = ap bandwidth_in (item_of_row read)
  w_is (Some w) read = ap bandwidth_in (item_of_row read)

-- what is read, before its flavour is told
abbrev parts_read : Flavour → Routerline → Routerline
parts_read flavour r = record r {
  digest = digest_said flavour r.digest;
  m = m_as_read flavour r.m;
  p = p_text flavour r.p;
}

as_parts : (flavour : Flavour) (r : Routerline) → parts_read flavour r ≡ router_as_read flavour r
as_parts Ns r = refl
as_parts Microdesc r = refl

module _ {limit : ℕ} {bytes : List ℕ} {taken : List (Taken (Value ConsensusValue))} {place : ℕ} where
  -- What is read of a relay. Its rows stand in the order of its text.
  pub router_says : (flavour : Flavour) (r : Routerline) → IsRouterInRange flavour r
      → AreRead limit bytes taken place (rows_in (router_section flavour r))
      → router_of flavour bytes taken ≡ router_as_read flavour r
  router_says flavour r are read =
      let relay = read.each.0 in
      let behind_m = read.each.1.1.1 in
      let behind_v = behind_m.1.1 in
      let found = item_of_row relay in
      let name = nickname_stands flavour bytes _ r (rest_part relay.stand.in_place.0) in
      let says : router_of flavour bytes taken ≡ parts_read flavour r =
      λ i. record {
        nickname = (ap (λ (o : Option ConsensusTaken). part bytes (relay_in o).nickname) found ∙ name) i;
        identity = ap (λ (o : Option ConsensusTaken). (relay_in o).identity) found i;
        digest = ap (λ (o : Option ConsensusTaken). (relay_in o).digest) found i;
        published =
            (ap (λ (o : Option ConsensusTaken). moment_of (relay_in o).published) found
            ∙ once r.published are.published) i;
        ip = ap (λ (o : Option ConsensusTaken). (relay_in o).ip) found i;
        or_port = ap (λ (o : Option ConsensusTaken). (relay_in o).or_port) found i;
        dir_port = ap (λ (o : Option ConsensusTaken). (relay_in o).dir_port) found i;
        a = text_if_said _ r.a read.each.1.0 i;
        m = m_is flavour r.m read.each.1.1.0 i;
        flags = flags_said the.S _ r.flags are.flags behind_m.0 i;
        v = text_if_said _ r.v behind_m.1.0 i;
        pr = text_if_said _ r.pr behind_v.0 i;
        w = w_is r.w behind_v.1.0 i;
        p = summary_is flavour r behind_v.1.1.0 i;
      } in
      says ∙ as_parts flavour r
