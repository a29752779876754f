use Rattle.std.{proofs.Common.{rules, ◌≡◌, ℕ, true, false, List, Some, ap, ◌∙◌}, specs.{Prelude.codes, Str.bytes_eq}}
use Rattle.dir_values.specs.Taking.{argument_of}
use Rattle.vote_maker.proofs.Versions.{no_word, one_word, tor_named, other_named}
use Rattle.vote_maker.proofs.version.version_of_platform.Goals as goal

pub returns-in_default : goal.returns-in_default
returns-in_default c =
    no_word c.args.platform.now c.at-words.result c.at-words.ensures c.in_default.ensures.taken.0

pub returns-in_default-next : goal.returns-in_default-next
returns-in_default-next c =
    one_word c.args.platform.now c.at-words.result c.next.new.self (argument_of c.in-Some.name) c.at-words.ensures
    c.in-Some.ensures.taken c.in_default-next.ensures.taken.0

pub returns-in_ok-two_words : goal.returns-in_ok-two_words
returns-in_ok-two_words c =
    let its : bytes_eq c.in-Some.name.text.now (codes "Tor") ≡ true = search rules in
    ap (λ (text : List ℕ). Some text) c.in_ok-two_words.ensures
    ∙ tor_named c.args.platform.now c.at-words.result c.next.new.self c.next-2.new.self (argument_of c.in-Some.name)
    (argument_of c.in-Some-next.number) c.at-words.ensures c.in-Some.ensures.taken c.in-Some-next.ensures.taken its

pub returns-else-eq : goal.returns-else-eq
returns-else-eq c =
    let its : bytes_eq c.in-Some.name.text.now (codes "Tor") ≡ false = search rules in
    other_named c.args.platform.now c.at-words.result c.next.new.self c.next-2.new.self (argument_of c.in-Some.name)
    (argument_of c.in-Some-next.number) c.at-words.ensures c.in-Some.ensures.taken c.in-Some-next.ensures.taken its
