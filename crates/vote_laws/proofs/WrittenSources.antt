-- Who the authority of a vote is that was written: its line is read again, and where its words stand.
use Rattle.std.{proofs.Common.{◌≡◌, ℕ, List, ◌∷◌, ◌++◌, Ok, sym, ap, subst, ◌∙◌, append_assoc}, specs.Fmt.decimal}
use Rattle.dir_bytes.specs.FieldTexts.{address_text, hex_text}
use Rattle.dirdoc_grammar.specs.Writing.{written}
use Rattle.frame_terms.specs.declared.keyword.Keyword.{Keyword}
use Rattle.frame_values.specs.{Fields.span, Items.bare, Lines.source_of, Parts.part, declared.found.DirSource.DirSource}
use Rattle.frame_laws.proofs.WrittenItems.{start_of}
use Rattle.group_laws.specs.LineAgain as line
use Rattle.group_laws.{specs.LineAgain.IsSourceInRange, proofs.SourceRows.{SourceIs, source_back}}
use Rattle.group_laws.proofs.WrittenSources as sources
use Rattle.vote_terms.specs.declared.facts.VoteFacts.{VoteFacts}
use Rattle.vote_text.specs.Texts.{source_text}
use Rattle.vote_laws.specs.Again.{HasValuesInRange}

-- the words of an authority whose first one stands at a place
abbrev pub source_at : ℕ → VoteFacts → DirSource
source_at start facts =
    line.source_at start facts.nickname facts.identity facts.address facts.ip facts.dir_port facts.or_port

-- the text of its words
abbrev words_text : VoteFacts → List ℕ
words_text facts =
    line.source_text facts.nickname facts.identity facts.address facts.ip facts.dir_port facts.or_port

-- six texts one behind the other
pub six_in_a_row : (a b c d e f : List ℕ) → ((a ++ b) ++ c) ++ ((d ++ e) ++ f) ≡ a ++ (b ++ (c ++ (d ++ (e ++ f))))
six_in_a_row a b c d e f =
    append_assoc (a ++ b) c ((d ++ e) ++ f) ∙ append_assoc a b (c ++ ((d ++ e) ++ f))
    ∙ ap (λ (l : List ℕ). a ++ (b ++ (c ++ l))) (append_assoc d e f)

-- the text of an authority is that of its words
source_shape : (facts : VoteFacts) → source_text facts ≡ words_text facts
source_shape facts =
    six_in_a_row facts.nickname (32 ∷ hex_text facts.identity.0) (32 ∷ facts.address) (32 ∷ address_text facts.ip)
    (32 ∷ decimal facts.dir_port) (32 ∷ decimal facts.or_port)

source_range : (facts : VoteFacts) → HasValuesInRange facts
    → IsSourceInRange facts.nickname facts.identity facts.address facts.ip facts.dir_port facts.or_port
source_range facts are = record {
  nickname_is = are.nickname;
  identity_is = are.identity;
  address_is = are.address;
  ip_is = are.ip;
  dir_port_is = are.dir_port;
  or_port_is = are.or_port;
}

-- who the authority is
pub source-written : (p : ℕ) (k : Keyword) (facts : VoteFacts) → HasValuesInRange facts
    → source_of (written p (bare k (source_text facts))) ≡ Ok (source_at (start_of p k (source_text facts)) facts)
source-written p k facts are =
    subst (λ (t : List ℕ). source_of (written p (bare k t)) ≡ Ok (source_at (start_of p k t) facts))
    (sym (source_shape facts))
    (sources.source_again p k facts.nickname facts.identity facts.address facts.ip facts.dir_port facts.or_port
    (source_range facts are))

-- what is read of the line of an authority says what the vote says
abbrev pub SourceSays : List ℕ → DirSource → VoteFacts → Type 0
SourceSays bytes found facts =
    SourceIs bytes found facts.nickname facts.identity facts.address facts.ip facts.dir_port facts.or_port

-- where its text stands
pub source_stands : (bytes : List ℕ) (start : ℕ) (facts : VoteFacts)
    → part bytes (span start (source_text facts)) ≡ source_text facts → SourceSays bytes (source_at start facts) facts
source_stands bytes start facts there =
    source_back facts.nickname facts.identity facts.address facts.ip facts.dir_port facts.or_port bytes start
    (subst (λ (t : List ℕ). part bytes (span start t) ≡ t) (source_shape facts) there)
