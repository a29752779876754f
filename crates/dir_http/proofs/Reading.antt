-- What was taken off a source, and what is left, as one text with a head at its front.
use Rattle.std.proofs.Common.{◌≡◌, ℕ, ◌<◌, ◌≤◌, List, [], ◌++◌, length, take, drop, refl, ap, sym, subst, ◌∙◌, Option}
use Rattle.std.proofs.Common.{Some, None, Result, Ok, Err, arith, take-take, length-take, take_all}
use Rattle.std.proofs.lemmas.{List.{take-append-drop, take-append-le, append-nil}, Bool.Decides.leb_tells}
use Rattle.std.{proofs.Math.{Logic.⊎_elim, Seq.take-append_seam}, specs.Io.KnownBytes.Consumes}
use Rattle.httparse.{specs.Grammar.{RequestHead, HasNoRequest, print_request}, proofs.GrammarLemmas.request_unique}
use Rattle.httparse.proofs.GrammarLemmas.{ReadsRequest-append}
use Rattle.dir_http.specs.declared.{fault.HttpFault.HttpFault, length.{Method2.Method2, Announcement.Announcement}}
use Rattle.dir_http.specs.{declared.{front.Parts.Parts, head.Head.Head}, Heads.{head_limit, IsHeadAt, IsOfHead}}
use Rattle.dir_http.specs.{Heads.{length_after, body_length, method_of}, Fronts.ArePartsOf, Requests.HasNoGoodHead}
use Rattle.dir_http.specs.Requests.{TellsHead, ReadsHead, AnswersHead, AtEndOrLimit, Whatever}
use Rattle.dir_http.specs.declared.fault.HttpFault.TheVariants as fault

-- by which of two numbers is the greater
order : {C : Type 0} (a b : ℕ) → (a ≤ b → C) → (b < a → C) → C
order a b low high = ⊎_elim (λ s. low s.1) (λ s. high s.1) (leb_tells a b)

-- a text that begins as another does, which is no longer, is that one and the rest
begins_with : (xs more ys zs : List ℕ) → xs ++ more ≡ ys ++ zs → length ys ≤ length xs → xs ≡ ys ++ drop (length ys) xs
begins_with xs more ys zs is short =
    let front : take (length ys) xs ≡ ys =
    sym (take-append-le (length ys) xs more short) ∙ ap (λ (l : List ℕ). take (length ys) l) is
    ∙ take-append_seam ys zs in
    sym (take-append-drop (length ys) xs) ∙ ap (λ (l : List ℕ). l ++ drop (length ys) xs) front

-- a head that is longer than the limit is the only one that can stand there
pub too_long : (bytes : List ℕ) (parts : Parts) (head : RequestHead) → ArePartsOf bytes parts head
    → head_limit < parts.len
    → (more : List ℕ) → HasNoGoodHead (bytes ++ more)
too_long bytes parts head are long more other rest at =
    let same = request_unique (bytes ++ more) head other (drop parts.len bytes ++ more) rest
    (ReadsRequest-append bytes head (drop parts.len bytes) more are.reads) at.reads in
    absurd (omega (arith, long, are.len, ap (λ (h : RequestHead). length (print_request h)) same.0, at.size))

-- a head whose length is refused
pub refused : (bytes : List ℕ) (parts : Parts) (head : RequestHead) (e : HttpFault) → ArePartsOf bytes parts head
    → parts.len ≤ head_limit → IsOfHead e → length_after head ≡ Err e → AnswersHead Whatever bytes (Err e)
refused bytes parts head fault.BadHead are short of is =
    λ more any other rest at.
    let same = request_unique (bytes ++ more) head other (drop parts.len bytes ++ more) rest
    (ReadsRequest-append bytes head (drop parts.len bytes) more are.reads) at.reads in
    ap length_after (sym same.0) ∙ is
refused bytes parts head fault.NoLength are short of is = (
  head,
  drop parts.len bytes,
  record
      { reads = are.reads; size = omega (arith, short, are.len); fields = are.fields },
  is,
)
refused bytes parts head (fault.TooLarge limit) are short of is = (
  head,
  drop parts.len bytes,
  record
      { reads = are.reads; size = omega (arith, short, are.len); fields = are.fields },
  is,
)
refused bytes parts head (fault.Truncated have want) are short of is = absurd of
refused bytes parts head fault.ReadFault are short of is = tt
refused bytes parts head fault.Memory are short of is = tt

-- a refusal that `?` hands on
pub handed_on : (bytes : List ℕ) (parts : Parts) (head : RequestHead) (path : List ℕ) (e : HttpFault)
    (result : Result Head HttpFault)
    → ArePartsOf bytes parts head → parts.len ≤ head_limit → path ≡ head.target → IsOfHead e
    → Err e ≡ body_length parts.method path parts.announcement → result ≡ Err e → AnswersHead Whatever bytes result
handed_on bytes parts head path e result are short on of is gives =
    let same : body_length parts.method path parts.announcement ≡ length_after head =
    ap (λ (m : Method2). body_length m path parts.announcement) are.method
    ∙ ap (λ (p : List ℕ). body_length (method_of head.method) p parts.announcement) on
    ∙ ap (λ (a : Announcement). body_length (method_of head.method) head.target a) are.announcement in
    subst (λ (r : Result Head HttpFault). AnswersHead Whatever bytes r) (sym gives)
    (refused bytes parts head e are short of (sym (is ∙ same)))

-- no head within the limit stands in the bytes, and at the end or at the limit none can be finished
pub unfinished : (bytes : List ℕ) → HasNoRequest bytes → (more : List ℕ) → AtEndOrLimit bytes more
    → HasNoGoodHead (bytes ++ more)
unfinished bytes none more ends head rest at =
    order (length (print_request head)) (length bytes)
    (λ short. absurd (none head (drop (length (print_request head)) bytes)
    (at.reads.0, begins_with bytes more (print_request head) rest at.reads.1 short)))
    (λ long.
    let nothing : more ≡ [] = ends (omega (arith, long, at.size)) in
    let whole : bytes ≡ print_request head
    ++ rest = sym (ap (λ (l : List ℕ). bytes ++ l) nothing ∙ append-nil bytes) ∙ at.reads.1 in
    absurd (none head rest (at.reads.0, whole)))

-- what follows a whole head is the same with more behind it
take_twice : (n : ℕ) (rest left : List ℕ) → take n (rest ++ left) ≡ take n (take n rest ++ left)
take_twice n rest left =
    order n (length rest)
    (λ short.
    let cut : n ≤ length (take n rest) = omega (arith, short, length-take n rest) in
    take-append-le n rest left short ∙ sym (take-append-le n (take n rest) left cut ∙ take-take n n rest (omega arith)))
    (λ long. ap (λ (l : List ℕ). take n (l ++ left)) (sym (take_all n rest (omega (arith, long)))))

-- the same of what was read with a head
pub body_goes_on : (n : ℕ) (rest early left : List ℕ) → take n rest ≡ take n (early ++ [])
    → take n (rest ++ left) ≡ take n (early ++ left)
body_goes_on n rest early left is =
    take_twice n rest left ∙ ap (λ (l : List ℕ). take n (l ++ left))
    (is ∙ ap (λ (l : List ℕ). take n l) (append-nil early))
    ∙ sym (take_twice n early left)

further : (given left : List ℕ) (head : RequestHead) (rest : List ℕ) → IsHeadAt given head rest
    → IsHeadAt (given ++ left) head (rest ++ left)
further given left head rest at = record
    { reads = ReadsRequest-append given head rest left at.reads; size = at.size; fields = at.fields }

tells : (MayFollow : List ℕ → Type 0) (given left : List ℕ) (result : Result Head HttpFault) → MayFollow left
    → AnswersHead MayFollow given result → TellsHead (given ++ left) left result
tells MayFollow given left (Ok read) may a = (
  a.0,
  a.1 ++ left,
  record {
    at = further given left a.0 a.1 a.2.at;
    method = a.2.method;
    path = a.2.path;
    length = a.2.length;
    body = body_goes_on read.length a.1 read.early.items left a.2.body;
  },
)
tells MayFollow given left (Err fault.BadHead) may a = a left may
tells MayFollow given left (Err fault.NoLength) may a = (a.0, a.1 ++ left, further given left a.0 a.1 a.2, a.3)
tells MayFollow given left (Err (fault.TooLarge limit)) may a = (a.0, a.1 ++ left, further given left a.0 a.1 a.2, a.3)
tells MayFollow given left (Err (fault.Truncated have want)) may a = a
tells MayFollow given left (Err fault.ReadFault) may a = tt
tells MayFollow given left (Err fault.Memory) may a = tt

-- where so much was taken off a source, what it was read as is what the source tells
pub reads_head : (MayFollow : List ℕ → Type 0) (old new : Option (List ℕ)) (given : List ℕ)
    (result : Result Head HttpFault)
    → Consumes old new given → ((left : List ℕ) → new ≡ Some left → MayFollow left)
    → AnswersHead MayFollow given result → ReadsHead old new result
reads_head MayFollow None new given result took may a = tt
reads_head MayFollow (Some bytes) None given result took may a = absurd took
reads_head MayFollow (Some bytes) (Some left) given result took may a =
    subst (λ (l : List ℕ). TellsHead l left result) (sym took) (tells MayFollow given left result (may left refl) a)
