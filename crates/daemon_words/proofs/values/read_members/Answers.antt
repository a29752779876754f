use Rattle.std.proofs.Common.{rules, ◌≡◌, List, [], ◌∷◌, ◌++◌, Option, Some, None, sym, ap, ◌∙◌}
use Rattle.std.specs.Option.{option_map}
use Rattle.dir_values.specs.{declared.digest.Fingerprint.Fingerprint, Digests.fingerprint}
use Rattle.daemon_words.{specs.Values.members, proofs.Lists.{none_named, last_named, one_named, not_read, was_read}}
use Rattle.daemon_words.proofs.values.read_members.Goals as goal

pub returns-in_default : goal.returns-in_default
returns-in_default c =
    let word = c.split_at.result.0.now in
    let none : fingerprint word ≡ None = not_read (fingerprint word) c.in_default.field-0 c.in_default.ensures in
    let stops = none_named c.members.rest.now word c.split_at.result.1.now (search rules) (search rules) none in
    sym (ap (λ (o : Option (List Fingerprint)). option_map (λ more. c.members.members.items ++ more) o) stops) ∙ c.members.invariant

pub returns-in_default-split_first : goal.returns-in_default-split_first
returns-in_default-split_first c =
    let word = c.split_at.result.0.now in
    let one : fingerprint word ≡ Some c.in-Ok.member = was_read (fingerprint word) c.in-Ok.member c.in-Ok.ensures in
    let last = last_named c.members.rest.now word c.split_at.result.1.now c.in-Ok.member (search rules) (search rules) one (search rules) in
    let pushed : c.push.new.self.items ≡ c.members.members.items ++ c.in-Ok.member ∷ [] = search rules in
    ap (λ (l : List Fingerprint). Some l) pushed
    ∙ sym (ap (λ (o : Option (List Fingerprint)). option_map (λ more. c.members.members.items ++ more) o) last) ∙ c.members.invariant

pub members-preserved : goal.members-preserved
members-preserved c =
    let done = c.members.members.items in
    let word = c.split_at.result.0.now in
    let one : fingerprint word ≡ Some c.in-Ok.member = was_read (fingerprint word) c.in-Ok.member c.in-Ok.ensures in
    let pushed : c.push.new.self.items ≡ done ++ c.in-Ok.member ∷ [] = search rules in
    let step = one_named done c.members.rest.now word c.split_at.result.1.now c.in-Some.others.now c.in-Some.field-0-0.now c.in-Ok.member (search rules) (search rules) one c.in-Some.ensures.cases.0 in
    ap (λ (l : List Fingerprint). option_map (λ more. l ++ more) (members c.in-Some.others.now)) pushed ∙ sym step ∙ c.members.invariant
