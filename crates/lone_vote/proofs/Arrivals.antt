-- What comes of a body before its last byte.
use Rattle.std.proofs.Common.{◌≡◌, ◌∙◌, ℕ, ◌-◌, List, [], ◌++◌, length, take, drop, Option, Some, None, Ok, Err, sym}
use Rattle.std.{proofs.Common.{ap, append-nil, arith}, specs.Io.KnownBytes.Consumes}
use Rattle.dir_http.specs.{declared.{fault.HttpFault.HttpFault, head.Head.Head}, Requests.{EndsInBody, GivesBody}}
use Rattle.dir_http.specs.Requests.{ReadsBody, body_ahead}
use Rattle.dir_http.specs.declared.fault.HttpFault.TheVariants as fault

-- nothing was taken yet
pub none_taken : (head : Head) (given : ℕ) (left : Option (List ℕ)) → given ≡ 0
    → Consumes (body_ahead 0 head left) (body_ahead given head left) []
none_taken head given None is = tt
none_taken head given (Some bytes) is =
    ap (λ (k : ℕ). take (head.length - k) (drop k head.early.items ++ bytes)) (sym is)

-- the source ended before the body did
was_cut : (head : Head) (given have want : ℕ) (old mid : Option (List ℕ)) (bytes : List ℕ)
    → Consumes (body_ahead 0 head old) (body_ahead given head mid) bytes → length bytes ≡ given
    → EndsInBody head given have want mid
    → ReadsBody head.length (body_ahead 0 head old) (Err (fault.Truncated have want))
was_cut head given have want None mid bytes took count ends = tt
was_cut head given have want (Some old) None bytes took count ends = absurd took
was_cut head given have want (Some old) (Some left) bytes took count ends =
    let same = took ∙ ap (λ (l : List ℕ). bytes ++ l) ends.ended ∙ append-nil bytes in (
      ends.had ∙ sym count ∙ sym (ap (λ (l : List ℕ). length l) same),
      ends.wanted,
      ends.short,
    )

-- where no more pieces come, this is told of the body
pub not_whole : (head : Head) (given now : ℕ) (old mid new : Option (List ℕ)) (bytes out : List ℕ) (e : HttpFault)
    → Consumes (body_ahead 0 head old) (body_ahead given head mid) bytes → length bytes ≡ given
    → GivesBody head given now mid new (Err e) out → ReadsBody head.length (body_ahead 0 head old) (Err e)
not_whole head given now old mid new bytes out (fault.Truncated have want) took count gives =
    was_cut head given have want old mid bytes took count gives.0
not_whole head given now None mid new bytes out fault.ReadFault took count gives = tt
not_whole head given now (Some old) mid new bytes out fault.ReadFault took count gives = tt
not_whole head given now old mid new bytes out fault.BadHead took count gives = absurd gives
not_whole head given now old mid new bytes out fault.NoLength took count gives = absurd gives
not_whole head given now old mid new bytes out (fault.TooLarge limit) took count gives = absurd gives
not_whole head given now old mid new bytes out fault.Memory took count gives = absurd gives

-- where the last byte was given, the pieces are the body
pub whole_body : (head : Head) (given : ℕ) (old mid : Option (List ℕ)) (bytes : List ℕ)
    → Consumes (body_ahead 0 head old) (body_ahead given head mid) bytes → length bytes ≡ given
    → given ≡ head.length → ReadsBody head.length (body_ahead 0 head old) (Ok bytes)
whole_body head given None mid bytes took count all = tt
whole_body head given (Some old) None bytes took count all = absurd took
whole_body head given (Some old) (Some left) bytes took count all =
    let no_more : head.length - given ≡ 0 = omega (arith, all) in
    let none : take (head.length - given) (drop given head.early.items ++ left) ≡ [] =
    ap (λ (k : ℕ). take k (drop given head.early.items ++ left)) no_more in
    let same = took ∙ ap (λ (l : List ℕ). bytes ++ l) none ∙ append-nil bytes in
    (sym same, ap (λ (l : List ℕ). length l) same ∙ count ∙ all)
