use Rattle.std.proofs.Common.{◌≡◌, ℕ, ◌-◌, List, length, take, drop, refl, ap, subst, sym, ◌∙◌, arith}
use Rattle.std.proofs.lemmas.List.{length-drop}
use Rattle.dirdoc_grammar.proofs.FirstLine.{whole_rest}
use Rattle.frame_terms.specs.{declared.fault.ReadRefusal.ReadRefusal, Refusals.Fails}
use Rattle.document_commands.proofs.MadeOf.{ends_behind, fails_behind, fits_behind}
use Rattle.document_commands.proofs.ends.end_of.Goals as goal

pub from_front-requires : goal.from_front-requires
from_front-requires g c =
    let bytes = c.args.bytes.now in
    let n = c.front-front.result in
    fits_behind (g.D.Format.Frame.tables c.frame-frame.result) (g.D.Document.fault_of bytes) (g.D.Document.read_of bytes) bytes
    g.D.Document.LIMIT (g.D.Document.front_of bytes) c.LIMIT.result n (take (length bytes - n) (drop n bytes))
    c.new-items.result c.in-Err.refusal c.front-front.ensures.front c.LIMIT.ensures (whole_rest n bytes) c.new-items.ensures
    c.front-front.ensures.within c.requires c.frame-frame.ensures.within c.in-Err.ensures.ends

pub overflow_add-result : goal.overflow_add-result
overflow_add-result g c =
    let bytes = c.args.bytes.now in
    let n = c.front-front.result in
    let own = take (length bytes - n) (drop n bytes) in
    let size : length own ≡ length bytes - n = ap (λ (l : List ℕ). length l) (whole_rest n bytes) ∙ length-drop n bytes in
    let within = c.in-Ok.ensures.within 0 (c.LIMIT.result - n) own c.new-items.ensures refl in
    omega (arith, within, size, c.front-front.ensures.within, c.requires)

pub returns-in-Ok : goal.returns-in-Ok
returns-in-Ok g c =
    let bytes = c.args.bytes.now in
    let n = c.front-front.result in
    let own = take (length bytes - n) (drop n bytes) in
    ends_behind (g.D.Format.Frame.tables c.frame-frame.result) (g.D.Document.fault_of bytes) (g.D.Document.read_of bytes) bytes
    g.D.Document.LIMIT (g.D.Document.front_of bytes) c.LIMIT.result n c.in-Ok.end own c.new-items.result
    c.front-front.ensures.front c.LIMIT.ensures (whole_rest n bytes) c.new-items.ensures c.front-front.ensures.within
    c.frame-frame.ensures.comes c.in-Ok.ensures.ends
    (c.in-Ok.ensures.within 0 (c.LIMIT.result - n) own c.new-items.ensures refl)

pub returns-in-Err : goal.returns-in-Err
returns-in-Err g c =
    let bytes = c.args.bytes.now in
    let n = c.front-front.result in
    let read = g.D.Document.read_of bytes in
    subst (λ (why : ReadRefusal). Fails why read) (sym c.refusal_of.ensures)
    (fails_behind (g.D.Format.Frame.tables c.frame-frame.result) (g.D.Document.fault_of bytes) read bytes
    g.D.Document.LIMIT (g.D.Document.front_of bytes) c.LIMIT.result n (take (length bytes - n) (drop n bytes))
    c.new-items.result c.in-Err.refusal c.from_front.result c.front-front.ensures.front c.LIMIT.ensures (whole_rest n bytes)
    c.new-items.ensures c.frame-frame.ensures.comes c.in-Err.ensures.ends c.from_front.ensures)
