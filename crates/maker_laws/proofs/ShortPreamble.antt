-- The lines of a made vote before its certificate, but for those of its lists and of who it is, are no longer than a
-- line may be.
use Rattle.std.proofs.{Common.{ℕ, ◌≤◌, List, [], ◌∷◌, ◌++◌, length, length-append, refl, arith}, lemmas.Bool.leb-true}
use Rattle.std.{proofs.lemmas.{Fmt.length-decimal-le, List.Elements.{All-cons, All-nil}}, specs.Prelude.{All, codes}}
use Rattle.std.specs.Prelude.{decimal}
use Rattle.item_terms.specs.Bytes.{space}
use Rattle.dir_bytes.{specs.FieldTexts.moment_text, proofs.Days.length-moment_text}
use Rattle.dir_values.specs.{FlagSets.set_text, Numbers.numbers_text}
use Rattle.frame_terms.specs.declared.keyword.Keyword.{Keyword}
use Rattle.frame_terms.specs.declared.keyword.Keyword.TheVariants as the
use Rattle.frame_values.specs.{Items.{bare, item_if, moment_item}, Parts.moment_of}
use Rattle.flag_rules.specs.declared.ruling.Ruling.{Ruling}
use Rattle.vote_terms.specs.declared.facts.VoteFacts.{VoteFacts}
use Rattle.vote_text.specs.{Lists.{param_items, protocol_items, version_items}, Texts.{authority_items, delays_text}}
use Rattle.vote_text.specs.Texts.{flag_items, kind_items, preamble_items, source_text, time_items}
use Rattle.vote_laws.specs.Again.{HasValuesInRange}
use Rattle.vote_maker.specs.{Entries.made_methods, Made.{Basis, made_flags}}
use Rattle.maker_laws.specs.{Lines.{HasShortLine, HasShortLines}, ReadAsMade.signed_facts}
use Rattle.maker_laws.proofs.{ShortEntries.{AreShortLines, no_lines, one_line, ◌&◌}, MicroLines.methods_short}

two_short : (a b : ℕ) → a ≤ 4294967295 → b ≤ 4294967295 → length (decimal a ++ space ∷ decimal b) ≤ 1000000
two_short a b first second =
    omega (
      arith,
      length-append (decimal a) (space ∷ decimal b),
      length-decimal-le 10 a (omega arith) (omega (arith, first)) (omega (arith, first)),
      length-decimal-le 10 b (omega arith) (omega (arith, second)) (omega (arith, second)),
    )

module _ (its : Basis) (rulings : List Ruling) (signature : List ℕ) where
  abbrev facts : VoteFacts
  facts = signed_facts its rulings signature

  kinds : AreShortLines (kind_items facts)
  kinds =
      one_line the.NetworkStatusVersion (codes "3") (omega arith)
      & one_line the.VoteStatus (codes "vote") (omega arith)
      & one_line the.ConsensusMethods (numbers_text (made_methods its.station.newest))
      (omega (arith, methods_short its.station.newest space))

  one_time : (keyword : Keyword) (moment : ℕ) → AreShortLines (moment_item keyword moment ∷ [])
  one_time keyword moment =
      one_line keyword (moment_text (moment_of moment)) (omega (arith, length-moment_text (moment_of moment)))

  times : HasValuesInRange facts → AreShortLines (time_items facts)
  times values =
      one_time the.Published facts.published & one_time the.ValidAfter facts.valid_after
      & one_time the.FreshUntil facts.fresh_until & one_time the.ValidUntil facts.valid_until
      & one_line the.VotingDelay (delays_text facts)
      (two_short facts.vote_seconds facts.dist_seconds values.vote_seconds values.dist_seconds)

  flags : AreShortLines (flag_items facts)
  flags = one_line the.KnownFlags (set_text made_flags) (leb-true (length (set_text made_flags)) 1000000 refl)

  source : HasShortLine (bare the.DirSource (source_text facts))
      → AreShortLines (bare the.DirSource (source_text facts) ∷ [])
  source short = record {
    each = All-cons HasShortLine (bare the.DirSource (source_text facts)) [] short (All-nil HasShortLine);
  }

  pub before_short : HasValuesInRange facts → HasShortLines facts
      → All HasShortLine (preamble_items facts ++ authority_items facts)
  before_short values short =
      let versions : AreShortLines (version_items facts.lists) = record { each = short.versions } in
      let protocols : AreShortLines (protocol_items facts.lists) = record { each = short.protocols } in
      let params : AreShortLines (param_items facts.lists.params) = record { each = short.params } in
      let contact : AreShortLines (item_if the.Contact facts.contact) = record { each = short.contact } in
      let first : AreShortLines (preamble_items facts) =
      kinds & times values & versions & flags & protocols & params in
      let second : AreShortLines (authority_items facts) = source short.source & (contact & no_lines) in
      (first & second).each
