use Rattle.std.proofs.Common.{◌≡◌, ◌∙◌, ◌++◌, ◌+◌, ◌≤◌, ℕ, List, length, take, ap, sym, subst, arith, length-append}
use Rattle.std.specs.Io.KnownBytes.{Appends}
use Rattle.dir_bytes.specs.Causes.{Rose}
use Rattle.dir_http.{specs.Responses.{head_text, response_text}, proofs.Writing.appends_front}
use Rattle.dir_http.proofs.response.write_response.Goals as goal

pub returns-in-Failed-write_all : goal.returns-in-Failed-write_all
returns-in-Failed-write_all g c =
    let written = g.K.Sink.written in
    let faults = g.K.Sink.faults in
    let first = c.in_default-write_all.ensures in
    let second = c.in-Failed-write_all.ensures in
    let code = c.args.response.now.code in
    let body = c.args.response.now.body.items in
    let head = c.deref.result.now in
    let rest = c.deref-2.result.now in
    let sent = c.in-Failed-write_all.sent in
    let count : c.len.result ≡ length body = c.len.ensures ∙ sym c.deref-2.ensures.len
    ∙ ap (λ (l : List ℕ). length l) c.deref-2.ensures.value in
    let is_head : head ≡ head_text code (length body) = c.deref.ensures.value ∙ c.in-Ok.ensures
    ∙ ap (head_text code) count in
    let same : head ++ rest ≡ response_text code body =
    ap (λ (l : List ℕ). l ++ rest) is_head
    ∙ ap (λ (l : List ℕ). head_text code (length body) ++ l) c.deref-2.ensures.value in
    let long : length head ≡ c.len-in-Failed-write_all.result = c.deref.ensures.len
    ∙ sym c.len-in-Failed-write_all.ensures in
    let came : Appends (written c.args.sink.now) (written c.write_all-2.new.sink)
    (take (length head + sent) (head ++ rest)) =
    appends_front (written c.args.sink.now) (written c.write_all.new.sink)
    (written c.write_all-2.new.sink) head rest sent first.0 second.0 in (
      subst (λ (n : ℕ). Appends (written c.args.sink.now) (written c.write_all-2.new.sink)
          (take (n + sent) (response_text code body))) long
          (subst (λ (l : List ℕ). Appends (written c.args.sink.now) (written c.write_all-2.new.sink)
          (take (length head + sent) l)) same came),
      omega (arith, second.1, long, length-append head rest, ap (λ (l : List ℕ). length l) same),
      subst (λ (n : ℕ). Rose n (faults c.write_all-2.new.sink)) first.1 second.2,
      subst (λ (n : ℕ). n ≤ faults c.write_all-2.new.sink) first.1 second.3,
    )
