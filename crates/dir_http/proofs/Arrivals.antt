-- When a request at the front is settled.
use Rattle.std.proofs.Common.{◌≡◌, ◌∙◌, inr, ℕ, ◌+◌, ◌-◌, ◌<◌, ◌≤◌, List, [], ◌∷◌, ◌++◌, length, drop, refl, ap, sym}
use Rattle.std.proofs.{Common.{Result, Ok, Err, arith, length-append, length-drop}, lemmas.List.append-nil}
use Rattle.httparse.specs.{Grammar.{RequestHead, HasNoRequest}, Spans.RequestOverflows}
use Rattle.httparse.proofs.GrammarLemmas.{request_unique, ReadsRequest-append}
use Rattle.dir_http.specs.declared.{fault.HttpFault.HttpFault, length.{Method2.Method2, Announcement.Announcement}}
use Rattle.dir_http.specs.{declared.front.Parts.Parts, Heads.{head_limit, field_limit, IsOfHead, length_after}}
use Rattle.dir_http.specs.{Heads.{body_length, method_of}, Fronts.ArePartsOf, Arrivals.{IsSettled, AwaitsBytes}}
use Rattle.dir_http.proofs.Reading.{too_long, handed_on, unfinished}
use Rattle.dir_http.specs.declared.fault.HttpFault.TheVariants as fault

-- no head within the limit can stand there
pub past_the_limit : (bytes : List ℕ) → HasNoRequest bytes → head_limit ≤ length bytes → IsSettled bytes
past_the_limit bytes none long =
    inr (fault.BadHead, tt, λ more any. unfinished bytes none more (λ short. absurd (omega (arith, long, short))))

-- the one head that stands there is too long
pub head_too_long : (bytes : List ℕ) (parts : Parts) (head : RequestHead) → ArePartsOf bytes parts head
    → head_limit < parts.len → IsSettled bytes
head_too_long bytes parts head are long =
    inr (fault.BadHead, tt, λ more any. too_long bytes parts head are long more)

-- the one head that stands there is refused
pub head_refused : (bytes : List ℕ) (parts : Parts) (head : RequestHead) (path : List ℕ) (e : HttpFault)
    → ArePartsOf bytes parts head → parts.len ≤ head_limit → path ≡ head.target → IsOfHead e
    → Err e ≡ body_length parts.method path parts.announcement → IsSettled bytes
head_refused bytes parts head path e are short on of is =
    inr (e, of, handed_on bytes parts head path e (Err e) are short on of is refl)

-- what the parts of a head say of the length is what the head says
length_said : (bytes : List ℕ) (parts : Parts) (head : RequestHead) (path : List ℕ) → ArePartsOf bytes parts head
    → path ≡ head.target → body_length parts.method path parts.announcement ≡ length_after head
length_said bytes parts head path are on =
    ap (λ (m : Method2). body_length m path parts.announcement) are.method
    ∙ ap (λ (p : List ℕ). body_length (method_of head.method) p parts.announcement) on
    ∙ ap (λ (a : Announcement). body_length (method_of head.method) head.target a) are.announcement

-- the number that was answered
abbrev count_of : Result ℕ HttpFault → ℕ
count_of (Ok count) = count
count_of (Err e) = 0

ok_same : (a b : ℕ) (x y : Result ℕ HttpFault) → x ≡ Ok a → y ≡ Ok b → x ≡ y → a ≡ b
ok_same a b x y one other same = sym (ap count_of one) ∙ ap count_of same ∙ ap count_of other

-- with fewer bytes than are missing the body is not there
pub body_awaited : (bytes : List ℕ) (parts : Parts) (head : RequestHead) (path : List ℕ) (count : ℕ)
    → ArePartsOf bytes parts head → path ≡ head.target → Ok count ≡ body_length parts.method path parts.announcement
    → AwaitsBytes bytes (count - (length bytes - parts.len))
body_awaited bytes parts head path count are on is more few has =
    let same = request_unique (bytes ++ more) head has.0 (drop parts.len bytes ++ more) has.1
    (ReadsRequest-append bytes head (drop parts.len bytes) more are.reads) has.3.reads in
    let said : count ≡ has.2 =
    ok_same count has.2 (length_after head) (length_after has.0) (sym (is ∙ length_said bytes parts head path are on))
    has.4 (ap length_after same.0) in
    let long : length has.1 ≡ length bytes - parts.len + length more =
    ap (λ (l : List ℕ). length l) (sym same.1) ∙ length-append (drop parts.len bytes) more
    ∙ ap (λ (n : ℕ). n + length more) (length-drop parts.len bytes) in
    absurd (omega (arith, few, said, long, has.5))
