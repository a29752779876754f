-- What a reader gives first of the bytes behind the last vote that may be there.
use Rattle.std.proofs.Common.{◌≡◌, ◌∙◌, ℕ, ◌+◌, Bool, true, false, List, [], ◌++◌, length, drop, Option, Some, None}
use Rattle.std.proofs.Common.{refl, sym, ap, subst, arith, ◌<◌, ◌≤◌, ◌^◌, append-nil, length-append, length-drop}
use Rattle.std.specs.{Option.option_map, Prelude.{IfSome, unwrap_or}}
use Rattle.item_terms.specs.Items as model
use Rattle.item_terms.specs.{Items.{Contents, contents, nothing}, declared.fault.DocFault.DocFault}
use Rattle.item_feeder.proofs.FaultPlaces.{fault_within}
use Rattle.dirdoc_grammar.specs.{declared.{cursor.Cursor.Cursor, take.Take.Take}, Cursors.{IsAt, fed_by}}
use Rattle.dirdoc_grammar.specs.{Feeding.{IfItem, MayFollow, Takes, left_with}, Seen.{LiesInOrder, seen_item}}
use Rattle.dirdoc_grammar.proofs.Cursors.{at_more}
use Rattle.dirdoc_grammar.specs.declared.take.Take.TheVariants as taken
use Rattle.frame_terms.specs.{Decisions.beginning_reason, Keywords.word_of, declared.fault.FrameFault.FrameFault}
use Rattle.frame_terms.specs.declared.fault.{FrameReason.{FrameReason, TheVariants.TooMany}, ReadRefusal.ReadRefusal}
use Rattle.frame_terms.specs.declared.{fault.ReadRefusal.TheVariants.Frame, row.Limit.TheVariants.Votes}
use Rattle.blank_lines.specs.Behind.{fault_behind}
use Rattle.vote_frame.specs.Tables.{vote_tables}
use Rattle.compute_command.specs.{Beyonds.{EndsBeyond, ReadsFront, fault_of}, Votes.{by_first, item_too_many}}
use Rattle.compute_command.specs.Votes.{one_more_of}

-- why there is one more, by what the bytes hold
abbrev by_contents : Contents → Option ReadRefusal
by_contents held = by_first held.items held.fault

-- a reader at the first byte sees what an input holds that goes on so
sees : (bytes more : List ℕ) (cursor : Cursor) (finished_ : Bool) → ReadsFront bytes cursor
    → one_more_of (bytes ++ more) ≡ by_contents (left_with (fed_by cursor bytes finished_) more)
sees bytes more cursor finished_ is =
    ap (λ (k : ℕ). by_contents (contents k 0 nothing (bytes ++ more))) (sym is.limit)
    ∙ ap (λ (k : ℕ). by_contents (contents cursor.limit k nothing (drop k bytes ++ more))) (sym is.place)

-- ---- what it gives

-- what it gives where none follows is so of these bytes
alone : (bytes : List ℕ) (cursor new : Cursor) (given : Take) → ReadsFront bytes cursor
    → Takes (fed_by cursor bytes true) given (fed_by new bytes true)
    → option_map (λ f. Frame f) (fault_of given) ≡ one_more_of bytes
alone bytes cursor new given is takes = by given takes
  where
    seen_alone : one_more_of bytes ≡ by_contents (left_with (fed_by cursor bytes true) [])
    seen_alone =
        sym (ap (λ (l : List ℕ). one_more_of l) (append-nil bytes))
        ∙ sees bytes [] cursor true is

    by : (given : Take) → Takes (fed_by cursor bytes true) given (fed_by new bytes true)
        → option_map (λ f. Frame f) (fault_of given) ≡ one_more_of bytes
    by (taken.Item item) takes = sym (seen_alone ∙ ap (λ (c : Contents). by_contents c) (takes.0 [] refl))
    by (taken.Fault fault) takes = sym (seen_alone ∙ ap (λ (c : Contents). by_contents c) (takes.0 [] refl))
    by taken.NotYet takes = absurd (cc (takes.0))
    by taken.End takes = sym (seen_alone ∙ ap (λ (c : Contents). by_contents c) (takes.1))

pub finished : (start : ℕ) (bytes : List ℕ) (cursor new : Cursor) (given : Take) (told : Option FrameFault)
    → ReadsFront bytes cursor → Takes (fed_by cursor bytes true) given (fed_by new bytes true)
    → told ≡ option_map (fault_behind start) (fault_of given) → EndsBeyond start bytes told
finished start bytes cursor new given told is takes same =
    subst (λ (o : Option FrameFault). EndsBeyond start bytes o) (sym same)
    (by (fault_of given) (alone bytes cursor new given is takes))
  where
    by : (known : Option FrameFault) → option_map (λ f. Frame f) known ≡ one_more_of bytes
        → EndsBeyond start bytes (option_map (fault_behind start) known)
    by None e = sym e
    by (Some own) e = (own, refl, sym e)

-- ---- its place

place_is : (item : model.Item) → (item_too_many item).place ≡ item.place
place_is item = by (beginning_reason vote_tables (word_of item.keyword))
  where
    there : FrameReason → FrameFault
    there reason = record { place = item.place; reason = reason }

    told : Option FrameReason → FrameFault
    told why = unwrap_or (option_map there why) (there (TooMany Votes))

    by : (why : Option FrameReason) → (told why).place ≡ item.place
    by None = refl
    by (Some reason) = refl

may : (finished_ : Bool) → MayFollow finished_ []
may true = refl
may false = tt

-- a fault that is given stands within the bytes, or little behind them
pub fits : (start : ℕ) (bytes : List ℕ) (cursor new : Cursor) (finished_ : Bool) (given : Take) → ReadsFront bytes cursor
    → Takes (fed_by cursor bytes finished_) given (fed_by new bytes finished_)
    → IfItem given (λ item. LiesInOrder (seen_item item)) → start + length bytes < 2 ^ 61
    → IfSome (fault_of given) (λ own. start + own.place < 2 ^ 64)
fits start bytes cursor new finished_ (taken.Item item) is takes order short =
    let size = length-drop cursor.place bytes in
    omega (arith, place_is (seen_item item), order.some_bytes, takes.3, size, is.place, short)
fits start bytes cursor new finished_ (taken.Fault fault) is takes order short =
    let le : fault.place ≤ 2 ^ 62 =
    subst (λ (c : Contents). IfSome c.fault (λ (f : DocFault). f.place ≤ 2 ^ 62)) (takes.0 [] (may finished_))
    (fault_within (2 ^ 62) cursor.limit cursor.place (drop cursor.place bytes ++ []) (omega (arith, is.limit))
    (omega (arith, size, length-drop cursor.place bytes, is.place, short))) in
    omega (arith, le, short)
  where
    size : length (drop cursor.place bytes ++ []) ≡ length (drop cursor.place bytes)
    size = ap (λ (l : List ℕ). length l) (append-nil (drop cursor.place bytes))
fits start bytes cursor new finished_ taken.NotYet is takes order short = tt
fits start bytes cursor new finished_ taken.End is takes order short = tt

pub fits_told : (start : ℕ) (bytes : List ℕ) (cursor new : Cursor) (finished_ : Bool) (given : Take)
    (told : Option FrameFault) → told ≡ fault_of given → ReadsFront bytes cursor
    → Takes (fed_by cursor bytes finished_) given (fed_by new bytes finished_)
    → IfItem given (λ item. LiesInOrder (seen_item item)) → start + length bytes < 2 ^ 61
    → IfSome told (λ own. start + own.place < 2 ^ 64)
fits_told start bytes cursor new finished_ given told same is takes order short =
    subst (λ (o : Option FrameFault). IfSome o (λ own. start + own.place < 2 ^ 64)) (sym same)
    (fits start bytes cursor new finished_ given is takes order short)

pub short_all : (start : ℕ) (bytes view piece all : List ℕ) → all ≡ bytes ++ piece → bytes ≡ view
    → start + length view + length piece < 2 ^ 61 → start + length all < 2 ^ 61
short_all start bytes view piece all is same short =
    let size = ap (λ (l : List ℕ). length l) is in
    let own = ap (λ (l : List ℕ). length l) same in
    omega (arith, size, own, length-append bytes piece, short)

pub short_view : (start : ℕ) (all bytes view : List ℕ) → all ≡ bytes → bytes ≡ view → start + length view < 2 ^ 61
    → start + length all < 2 ^ 61
short_view start all bytes view is same short =
    let size = ap (λ (l : List ℕ). length l) (is ∙ same) in
    omega (arith, size, short)

-- ---- a reader

-- and of more bytes
pub front_more : (bytes piece all : List ℕ) (cursor : Cursor) → all ≡ bytes ++ piece → ReadsFront bytes cursor
    → ReadsFront all cursor
front_more bytes piece all cursor same is = record {
  reads = subst (λ (l : List ℕ). IsAt l cursor) (sym same) (at_more bytes piece cursor is.reads);
  limit = is.limit;
  place = is.place;
}
