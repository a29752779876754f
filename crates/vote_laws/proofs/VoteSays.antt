-- What is said by an item of a vote that was written and is read.
use Rattle.std.{proofs.Common.{◌≡◌, ℕ, List, Option, Some, None, refl, sym, ap, subst, ◌∙◌}, specs.Prelude.IfSome}
use Rattle.std.specs.Prelude.{option_map}
use Rattle.item_terms.specs.Words.{words_of}
use Rattle.dir_values.specs.{FlagSets.{as_set, set_text}, Numbers.{numbers_in, numbers_text}}
use Rattle.frame_terms.specs.{Rows.row, declared.{document.Taken.Taken, row.Count.TheVariants.{One, Optional}}}
use Rattle.frame_terms.specs.declared.keyword.Keyword.TheVariants as the
use Rattle.frame_values.specs.{Parts.part, Values.{item_at, text_if, text_in}, declared.values.Value.Value}
use Rattle.frame_laws.proofs.{ReadRows.{IsRead, item_of_row}, RowValues.{text_entry, text_if_said, text_said}}
use Rattle.frame_laws.proofs.{SaidRows.row_once, StandingParts.{rest_part, spelled}}
use Rattle.group_laws.proofs.{WrittenDelays.as_set-text, TimeRows.delays_row}
use Rattle.vote_terms.specs.declared.facts.{SignatureFacts.SignatureFacts, VoteFacts.VoteFacts}
use Rattle.vote_doc.specs.{Facts.signature_facts, Saying.{delays_in, signature_in, source_in}}
use Rattle.vote_frame.specs.declared.frame.VoteKind.TheVariants as kind
use Rattle.vote_frame.specs.declared.frame.VoteValue.{VoteValue}
use Rattle.vote_frame.specs.declared.frame.VoteValue.TheVariants as own
use Rattle.vote_laws.{specs.Again.{AreFlags, AreMethods}, proofs.VoteItems.{VoteTaken, methods_if, signature_entry}}
use Rattle.vote_laws.proofs.{VoteItems.{signature_row, source_entry}, WrittenSources.{SourceSays, source_stands}}
use Rattle.vote_laws.proofs.WrittenValues.{algorithm_of-name, numbers_in-text}

-- the methods
methods_back : (methods : Option (List ℕ)) → IfSome methods AreMethods
    → option_map numbers_in (option_map numbers_text methods) ≡ methods
methods_back None are = refl
methods_back (Some methods) are = ap (λ (numbers : List ℕ). Some numbers) (numbers_in-text methods are.each)

module _ {limit : ℕ} {bytes : List ℕ} {taken : List (Taken (Value VoteValue))} {place : ℕ} where
  pub methods_said : (methods : Option (List ℕ)) → IfSome methods AreMethods
      → IsRead limit bytes taken place (methods_if methods)
      → option_map numbers_in (option_map (part bytes) (text_if (item_at taken the.ConsensusMethods))) ≡ methods
  methods_said methods are read =
      ap (option_map numbers_in)
      (text_if_said (row the.ConsensusMethods Optional kind.Methods) (option_map numbers_text methods) read)
      ∙ methods_back methods are

  -- the flags
  pub flags_said : (flags : List (List ℕ)) → AreFlags flags
      → IsRead limit bytes taken place
      (row_once (row the.KnownFlags One kind.KnownFlags) (text_entry the.KnownFlags (set_text flags)))
      → as_set (words_of (part bytes (text_in (text_if (item_at taken the.KnownFlags))))) ≡ flags
  flags_said flags are read =
      ap (λ (l : List ℕ). as_set (words_of l))
      (text_said (row the.KnownFlags One kind.KnownFlags) (set_text flags) read)
      ∙ as_set-text flags are.ascend are.each

  -- the two delays
  pub delays_said : (vote dist : ℕ)
      → IsRead limit bytes taken place (delays_row kind.Delays (λ v d. own.Delays v d) vote dist)
      → delays_in (item_at taken the.VotingDelay) ≡ (vote, dist)
  delays_said vote dist read = ap delays_in (item_of_row read)

  -- the authority
  pub source_said : (facts : VoteFacts)
      → IsRead limit bytes taken place (row_once (row the.DirSource One kind.Source) (source_entry facts))
      → SourceSays bytes (source_in (item_at taken the.DirSource)) facts
  source_said facts read =
      subst (λ (o : Option VoteTaken). SourceSays bytes (source_in o) facts) (sym (item_of_row read))
      (source_stands bytes _ facts (rest_part read.stand.in_place.0))

  -- the signature
  pub signature_said : (facts : SignatureFacts)
      → IsRead limit bytes taken place (row_once signature_row (signature_entry facts))
      → signature_facts bytes (signature_in (item_at taken the.DirectorySignature)) ≡ facts
  signature_said facts read =
      let algorithm = algorithm_of-name facts.algorithm in
      let signature = spelled facts.signature read.stand.writable.0.object.bytes read.stand.in_place.0 refl in
      ap (λ (o : Option VoteTaken). signature_facts bytes (signature_in o)) (item_of_row read)
      ∙ (λ i. record {
        algorithm = algorithm i;
        identity = facts.identity;
        key_digest = facts.key_digest;
        signature = signature i;
      })
