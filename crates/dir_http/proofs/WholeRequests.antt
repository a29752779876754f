-- A head and the body behind it are one request.
use Rattle.std.proofs.Common.{◌≡◌, ℕ, ◌-◌, List, ◌++◌, length, take, drop, Option, Some, None, Result, Ok, Err, ap, sym}
use Rattle.std.proofs.Common.{◌∙◌, arith, length-take}
use Rattle.dir_http.specs.{declared.{fault.HttpFault.HttpFault, head.Head.Head}, Requests.{ReadsBody, ReadsHead}}
use Rattle.dir_http.specs.Requests.{ReadsWhole, body_ahead, request_with}
use Rattle.dir_http.specs.declared.fault.HttpFault.TheVariants as fault

-- all of a body is what the head announces of the rest
all_ahead : (head : Head) (left rest : List ℕ)
    → take head.length rest ≡ take head.length (head.early.items ++ left)
    → take (head.length - 0) (drop 0 head.early.items ++ left) ≡ take head.length rest
all_ahead head left rest is =
    let same : head.length - 0 ≡ head.length = omega arith in
    ap (λ (k : ℕ). take k (drop 0 head.early.items ++ left)) same ∙ sym is

-- what a body is read as behind a head, the request is read as
pub whole_request : (left mid : Option (List ℕ)) (head : Head) (body : Result (List ℕ) HttpFault)
    → ReadsHead left mid (Ok head) → ReadsBody head.length (body_ahead 0 head mid) body
    → ReadsWhole left (request_with head body)
whole_request None mid head body at reads = tt
whole_request (Some bytes) None head body at reads = absurd at
whole_request (Some bytes) (Some l) head (Ok body) at reads =
    let is = at.2 in
    let all = all_ahead head l at.1 is.body in
    let count : length body ≡ head.length = ap (λ (b : List ℕ). length b) reads.0 ∙ reads.1 in (
      at.0,
      at.1,
      record {
        at = is.at;
        method = is.method;
        path = is.path;
        announced = is.length ∙ ap (λ (k : ℕ). Ok k) (sym count);
        body = reads.0 ∙ all ∙ ap (λ (k : ℕ). take k at.1) (sym count);
      },
    )
whole_request (Some bytes) (Some l) head (Err (fault.Truncated have want)) at reads =
    let is = at.2 in
    let all = ap (λ (b : List ℕ). length b) (all_ahead head l at.1 is.body) in (
      at.0,
      at.1,
      is.at,
      is.length ∙ ap (λ (k : ℕ). Ok k) (sym reads.1),
      omega (arith, all, length-take head.length at.1, reads),
      reads.2,
    )
whole_request (Some bytes) (Some l) head (Err fault.ReadFault) at reads = tt
whole_request (Some bytes) (Some l) head (Err fault.Memory) at reads = tt
whole_request (Some bytes) (Some l) head (Err fault.BadHead) at reads = absurd reads
whole_request (Some bytes) (Some l) head (Err fault.NoLength) at reads = absurd reads
whole_request (Some bytes) (Some l) head (Err (fault.TooLarge limit)) at reads = absurd reads
