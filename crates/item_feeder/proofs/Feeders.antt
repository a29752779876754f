-- Bytes that are fed.
use Rattle.std.proofs.Common.{◌≡◌, ℕ, ◌+◌, ◌-◌, ◌<◌, ◌≤◌, ◌^◌, Bool, true, false, List, [], ◌∷◌, ◌++◌, length, take}
use Rattle.std.proofs.{Common.{drop, refl, sym, ap, subst, ◌∙◌, arith}, lemmas.{Bool.false≢true, List.append-nil}}
use Rattle.std.proofs.lemmas.List.{append_assoc, length-append, length-drop, length-take, drop-append-le}
use Rattle.std.{proofs.Math.Seq.{take-add, take-append-add}, specs.Prelude.{is_some, option_to_list, IfSome, Option}}
use Rattle.std.specs.Prelude.{Some, None}
use Rattle.item_terms.specs.{declared.fault.DocFault.DocFault, Items.{Contents, contents, nothing, failed_contents}}
use Rattle.dirdoc_grammar.specs.{declared.{cursor.Cursor.Cursor, take.Take.Take}, Cursors.{IsAt, fed_by}, Feeding.Fed}
use Rattle.dirdoc_grammar.{specs.Feeding.{MayFollow, Takes}, proofs.Cursors.at_more}
use Rattle.dirdoc_grammar.specs.declared.take.Take.TheVariants as take_
use Rattle.item_feeder.{specs.Feeders.{fed_with, IfFault, KeepsWithin}, proofs.FaultPlaces.fault_within}

-- nothing stands beside the bytes, or they are as many as the document may have
pub beside_none : (beside : Option ℕ) → (is_some beside ≡ false) → beside ≡ None
beside_none None e = refl
beside_none (Some b) e = absurd (false≢true (sym e))

some_behind : (room : ℕ) (piece : List ℕ) (beside : Option ℕ) (b : ℕ)
    → option_to_list (Some b) ≡ take 1 (drop room piece) → length (take room piece) ≡ room
some_behind room piece beside b e =
    let one : 1 ≡ length (take 1 (drop room piece)) = ap length e in
    omega (arith, one, length-take 1 (drop room piece), length-drop room piece, length-take room piece)

within_by : (limit room : ℕ) (bytes piece : List ℕ) (beside : Option ℕ) → length bytes + room ≡ limit
    → option_to_list beside ≡ take 1 (drop room piece) → KeepsWithin limit (bytes ++ take room piece) beside
within_by limit room bytes piece None fits e =
    omega (arith, fits, length-append bytes (take room piece), length-take room piece)
within_by limit room bytes piece (Some b) fits e =
    omega (arith, fits, length-append bytes (take room piece), some_behind room piece (Some b) b e)

pub appended : (bytes fits piece new : List ℕ) (beside : Option ℕ) (cursor : Cursor) (room : ℕ) → IsAt bytes cursor
    → length bytes + room ≡ cursor.limit → new ≡ bytes ++ fits → fits ≡ take room piece
    → option_to_list beside ≡ take 1 (drop room piece)
    → IsAt new cursor × KeepsWithin cursor.limit new beside
appended bytes fits piece new beside cursor room is full e front next =
    let all : new ≡ bytes ++ take room piece = e ∙ ap (λ (l : List ℕ). bytes ++ l) front in
    subst (λ (l : List ℕ). IsAt l cursor × KeepsWithin cursor.limit l beside) (sym all)
    (at_more bytes (take room piece) cursor is, within_by cursor.limit room bytes piece beside full next)

pub fed_rest : (base limit place room : ℕ) (bytes fits piece new : List ℕ) (old beside : Option ℕ) → old ≡ None
    → place ≤ length bytes → length bytes + room ≡ limit → new ≡ bytes ++ fits → fits ≡ take room piece
    → option_to_list beside ≡ take 1 (drop room piece)
    → drop place new ++ option_to_list beside ≡ take ((base + limit) + 1 - (base + place))
    ((drop place bytes ++ option_to_list old) ++ piece)
fed_rest base limit place room bytes fits piece new old beside none le full e front next =
    let rest : List ℕ = drop place bytes in
    let count : length rest + (room + 1) ≡ (base + limit) + 1 - (base + place) =
    omega (arith, le, full, length-drop place bytes) in
    ap (λ (l : List ℕ). drop place l ++ option_to_list beside) (e ∙ ap (λ (l : List ℕ). bytes ++ l) front)
    ∙ ap (λ (l : List ℕ). l ++ option_to_list beside) (drop-append-le place bytes (take room piece) le)
    ∙ ap (λ (l : List ℕ). (rest ++ take room piece) ++ l) next
    ∙ append_assoc rest (take room piece) (take 1 (drop room piece))
    ∙ ap (λ (l : List ℕ). rest ++ l) (sym (take-add room 1 piece))
    ∙ sym (take-append-add rest piece (room + 1))
    ∙ ap (λ (k : ℕ). take k (rest ++ piece)) count
    ∙ ap (λ (l : List ℕ). take ((base + limit) + 1 - (base + place)) (l ++ piece))
    (sym (ap (λ (o : Option ℕ). rest ++ option_to_list o) none ∙ append-nil rest))

pub within_length : (limit : ℕ) (bytes : List ℕ) (beside : Option ℕ) → KeepsWithin limit bytes beside
    → length bytes ≤ limit
within_length limit bytes None h = h
within_length limit bytes (Some b) h = omega (arith, h)

-- where nothing is known and no byte stands beside
pub waits_with : (cursor : Cursor) (bytes : List ℕ) (beside : Option ℕ) (finished : Bool) → beside ≡ None
    → Takes (fed_by cursor bytes finished) take_.NotYet (fed_by cursor bytes finished)
    → Takes (fed_with cursor bytes beside finished) take_.NotYet (fed_with cursor bytes beside finished)
waits_with cursor bytes beside finished none h =
    let same : fed_by cursor bytes finished ≡ fed_with cursor bytes beside finished =
    ap (λ (l : List ℕ). record { limit = cursor.limit; place = cursor.place; rest = l; finished = finished })
    (sym (ap (λ (o : Option ℕ). drop cursor.place bytes ++ option_to_list o) none ∙ append-nil
    (drop cursor.place bytes))) in
    subst (λ (f : Fed). Takes f take_.NotYet f) same h

few_beside : (beside : Option ℕ) → length (option_to_list beside) ≤ 1
few_beside None = omega arith
few_beside (Some b) = omega arith

may : (finished : Bool) → MayFollow finished []
may true = refl
may false = tt

near : (n limit place : ℕ) (rest : List ℕ) (fault : DocFault) → limit ≤ n → place + length rest + 1048576 ≤ n
    → contents limit place nothing rest ≡ failed_contents fault → fault.place ≤ n
near n limit place rest fault far le e =
    subst (λ (c : Contents). IfSome c.fault (λ f. f.place ≤ n)) e (fault_within n limit place rest far le)

pub fault_near : (base : ℕ) (bytes : List ℕ) (cursor : Cursor) (beside : Option ℕ) (finished : Bool) (taken : Take)
    (new : Fed) → Takes (fed_with cursor bytes beside finished) taken new → cursor.place ≤ length bytes
    → length bytes ≤ cursor.limit → base + cursor.limit < 2 ^ 61
    → IfFault taken (λ fault. base + fault.place < 2 ^ 63)
fault_near base bytes cursor beside finished (take_.Item item) new h le short small = tt
fault_near base bytes cursor beside finished (take_.Fault fault) new h le short small =
    let rest : List ℕ = drop cursor.place bytes ++ option_to_list beside in
    let few : length (option_to_list beside) ≤ 1 = few_beside beside in
    let far = near (cursor.limit + 1 + 1048576) cursor.limit cursor.place (rest ++ []) fault (omega arith)
    (omega (
      arith,
      le,
      short,
      few,
      length-drop cursor.place bytes,
      length-append (drop cursor.place bytes)
          (option_to_list beside),
      length-append rest [],
    )) (h.0 [] (may finished)) in
    omega (arith, far, small)
fault_near base bytes cursor beside finished take_.NotYet new h le short small = tt
fault_near base bytes cursor beside finished take_.End new h le short small = tt
