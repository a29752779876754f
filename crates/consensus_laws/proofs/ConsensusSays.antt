-- What is read of a section of a consensus that was written says what was written.
use Rattle.std.proofs.Common.{◌≡◌, ℕ, ◌≤◌, List, [], Option, refl, sym, ap, subst, ◌∙◌, arith}
use Rattle.item_terms.specs.Words.{words_of}
use Rattle.dir_values.specs.FlagSets.{as_set, set_text}
use Rattle.frame_terms.specs.{Keywords.same, Rows.row, declared.{document.Taken.Taken, keyword.Keyword.Keyword}}
use Rattle.frame_terms.specs.declared.row.Count.TheVariants.{One}
use Rattle.frame_terms.specs.declared.keyword.Keyword.TheVariants as the
use Rattle.frame_values.specs.{Values.number_in, declared.values.Value.Value}
use Rattle.frame_laws.proofs.{ReadRows.{AreRead, IsRead, item_of_row, row_read}, RowValues.{moment_said, text_entry}}
use Rattle.frame_laws.proofs.{RowValues.{text_if_said, text_said}, SaidRows.row_once, Sections.rows_in}
use Rattle.frame_laws.proofs.StandingParts.{rest_part}
use Rattle.group_laws.{specs.LineAgain.AreFlagsInRange, proofs.{WrittenDelays.flags_again, SourceRows.SourceIs}}
use Rattle.group_laws.proofs.SourceRows.{source_back}
use Rattle.consensus_terms.specs.{Methods.is_34_or_later, declared.consensus.ConsensusFacts.ConsensusFacts}
use Rattle.consensus_terms.specs.declared.{consensus.SourceLine.SourceLine, flavour.Flavour.Flavour}
use Rattle.consensus_frame.specs.declared.{rows.ConsensusKind.ConsensusKind, value.ConsensusValue.ConsensusValue}
use Rattle.consensus_doc.specs.{Drafts.{flags_in, lists_of, method_of, preamble_facts, source_of}, Saying.delays_in}
use Rattle.consensus_doc.specs.Saying.{source_in, vote_digest_in}
use Rattle.consensus_laws.{specs.Again.AreFactsInRange, proofs.ConsensusLists.{params_back, protocols_back}}
use Rattle.consensus_laws.proofs.{ConsensusLists.versions_back, ConsensusRandoms.random_said, ConsensusRows.preamble}
use Rattle.consensus_laws.proofs.ConsensusRows.{source_section}

-- what was taken of a section
abbrev pub ConsensusTaken : Type 0
ConsensusTaken = Taken (Value ConsensusValue)

module _ {limit : ℕ} {bytes : List ℕ} {taken : List (Taken (Value ConsensusValue))} {place : ℕ} where
  -- flags of a row
  pub flags_said : (keyword : Keyword) (of : ConsensusKind) (flags : List (List ℕ)) → AreFlagsInRange flags
      → IsRead limit bytes taken place (row_once (row keyword One of) (text_entry keyword (set_text flags)))
      → flags_in bytes taken keyword ≡ flags
  flags_said keyword of flags are read =
      ap (λ (l : List ℕ). as_set (words_of l)) (text_said (row keyword One of) (set_text flags) read)
      ∙ (flags_again 0 keyword flags are).1

-- a number of 32 bits is not cut off
whole_method : (n : ℕ) → n ≤ 4294967295 → method_of n ≡ n
whole_method n small = omega (arith, small)

module _ {limit : ℕ} {bytes : List ℕ} {taken : List (Taken (Value ConsensusValue))} {place : ℕ} where
  -- The preamble.
  pub preamble_says : (flavour : Flavour) (c : ConsensusFacts) → AreFactsInRange flavour c
      → AreRead limit bytes taken place (rows_in (preamble flavour c))
      → preamble_facts bytes taken ≡ record c { sources = []; routers = [] }
  unfolding same
  preamble_says flavour c are read =
      let l = c.lists in
      let always = is_34_or_later c.method in
      let method =
      ap (λ (o : Option ConsensusTaken). method_of (number_in o)) (item_of_row (row_read the.ConsensusMethod read refl))
      ∙ whole_method c.method are.method in
      let delays = ap delays_in (item_of_row (row_read the.VotingDelay read refl)) in
      let lists : lists_of bytes taken ≡ l =
      λ i. record {
        client_versions =
            versions_back always the.ClientVersions l.client_versions are.lists.client_versions
            (row_read the.ClientVersions read refl) i;
        server_versions =
            versions_back always the.ServerVersions l.server_versions are.lists.server_versions
            (row_read the.ServerVersions read refl) i;
        recommended_client_protocols =
            protocols_back always the.RecommendedClientProtocols l.recommended_client_protocols
            are.lists.recommended_client_protocols (row_read the.RecommendedClientProtocols read refl) i;
        recommended_relay_protocols =
            protocols_back always the.RecommendedRelayProtocols l.recommended_relay_protocols
            are.lists.recommended_relay_protocols (row_read the.RecommendedRelayProtocols read refl) i;
        required_client_protocols =
            protocols_back always the.RequiredClientProtocols l.required_client_protocols
            are.lists.required_client_protocols (row_read the.RequiredClientProtocols read refl) i;
        required_relay_protocols =
            protocols_back always the.RequiredRelayProtocols l.required_relay_protocols
            are.lists.required_relay_protocols (row_read the.RequiredRelayProtocols read refl) i;
        params = params_back l.params are.lists.params (row_read the.Params read refl) i;
      } in
      λ i. record {
        method = method i;
        valid_after = moment_said _ c.valid_after are.valid_after (row_read the.ValidAfter read refl) i;
        fresh_until = moment_said _ c.fresh_until are.fresh_until (row_read the.FreshUntil read refl) i;
        valid_until = moment_said _ c.valid_until are.valid_until (row_read the.ValidUntil read refl) i;
        vote_seconds = (delays i).0;
        dist_seconds = (delays i).1;
        known_flags = flags_said the.KnownFlags _ c.known_flags are.known_flags (row_read the.KnownFlags read refl) i;
        lists = lists i;
        random_previous =
            random_said the.SharedRandPreviousValue c.random_previous (row_read the.SharedRandPreviousValue read refl) i;
        random_current =
            random_said the.SharedRandCurrentValue c.random_current (row_read the.SharedRandCurrentValue read refl) i;
        sources = [];
        routers = [];
      }

  -- An authority.
  pub source_says : (s : SourceLine) → AreRead limit bytes taken place (rows_in (source_section s))
      → source_of bytes taken ≡ s
  unfolding same
  source_says s read =
      let source = row_read the.DirSource read refl in
      let found =
      subst (λ (o : Option ConsensusTaken).
      SourceIs bytes (source_in o) s.nickname s.identity s.address s.ip s.dir_port s.or_port)
      (sym (item_of_row source))
      (source_back s.nickname s.identity s.address s.ip s.dir_port s.or_port bytes _
      (rest_part source.stand.in_place.0)) in
      λ i. record {
        nickname = found.nickname i;
        identity = found.identity i;
        address = found.address i;
        ip = found.ip i;
        dir_port = found.dir_port i;
        or_port = found.or_port i;
        contact = text_if_said _ s.contact (row_read the.Contact read refl) i;
        vote_digest = ap vote_digest_in (item_of_row (row_read the.VoteDigest read refl)) i;
      }
