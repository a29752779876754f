-- A date and a time of day that are read make a moment of the calendar.
use Rattle.std.proofs.Common.{◌≡◌, ℕ, ◌+◌, ◌*◌, ◌<◌, ◌≤◌, Bool, true, false, List, length, Option, Some, None, Result}
use Rattle.std.proofs.{Common.{Ok, Err, refl, ap, subst, arith, pos, unsigned_abs}, lemmas.Bool.{and_parts, leb-true}}
use Rattle.std.specs.{Prelude.{◌==◌, ◌&&◌, nat_le, slice_index, slice_range, if◌then◌else◌}, Str.Parse.digits_value}
use Rattle.jiff_core.{specs.Calendar.{IsCivilDate, days_from_civil, days_in_month}, proofs.SignedLemmas.signed_arith}
use Rattle.item_terms.specs.Items.{Item}
use Rattle.dir_bytes.specs.Fields.{address, date, day_of, day_of_parts, is_numeral, number, seconds_of, time_of_day}
use Rattle.dir_bytes.proofs.Calendars.{day_number}
use Rattle.dir_values.specs.{Arguments.Argument, Digests.digest1, Names.is_nickname, Numbers.port_of}
use Rattle.dir_values.specs.declared.digest.{Digest1.Digest1, Fingerprint.Fingerprint}
use Rattle.frame_values.specs.{Arguments.{arguments_of, field, front, next, others}, Fields.span_if, Lines.time_of}
use Rattle.frame_values.specs.{Parts.moment_of, declared.found.Span.Span}
use Rattle.relay_entries.specs.{Fields.identity, declared.said.RelayLine.RelayLine}
use Rattle.relay_entries.specs.Lines as vote
use Rattle.consensus_terms.specs.declared.flavour.Flavour.{Flavour}
use Rattle.consensus_frame.specs.Lines.{after_digest, digest_here}
use Rattle.consensus_frame.specs.Lines as consensus
use Rattle.consensus_laws.specs.Capping.{MomentsAreNotCapped}

-- ---- numbers

-- a number is not above the limit that it is read with
number_within : (limit : ℕ) (text : List ℕ) (n : ℕ) → number limit text ≡ Some n → n ≤ limit
unfolding number
number_within limit text n is = by (is_numeral text && nat_le (digits_value 10 text) limit) refl is
  where
    by : (t : Bool) → (is_numeral text && nat_le (digits_value 10 text) limit) ≡ t
        → (if t then Some (digits_value 10 text) else None) ≡ Some n → n ≤ limit
    by true test e =
        let same : digits_value 10 text ≡ n = cc e in
        subst (λ (k : ℕ). k ≤ limit) same
        (leb-true (digits_value 10 text) limit (and_parts (is_numeral text) (nat_le (digits_value 10 text) limit) test).1)
    by false test e = absurd (cc e)

-- ---- a date

day_within : (year month day n : ℕ) → year ≤ 9999 → day_of year month day ≡ Some n → n ≤ 2932896
unfolding day_of
day_within year month day n small is =
    by (nat_le 1970 year && (nat_le 1 month && nat_le month 12)
    && (nat_le 1 day && nat_le day (days_in_month (pos year) month))) refl is
  where
    by : (t : Bool)
        → (nat_le 1970 year && (nat_le 1 month && nat_le month 12)
        && (nat_le 1 day && nat_le day (days_in_month (pos year) month))) ≡ t
        → (if t then Some (unsigned_abs (days_from_civil (pos year) month day)) else None) ≡ Some n → n ≤ 2932896
    by false test e = absurd (cc e)
    by true test e =
        let dated = nat_le 1 day && nat_le day (days_in_month (pos year) month) in
        let monthly = nat_le 1 month && nat_le month 12 in
        let parts = and_parts (nat_le 1970 year && monthly) dated test in
        let more = and_parts (nat_le 1970 year) monthly parts.0 in
        let months = and_parts (nat_le 1 month) (nat_le month 12) more.1 in
        let days = and_parts (nat_le 1 day) (nat_le day (days_in_month (pos year) month)) parts.1 in
        let late = leb-true 1970 year more.0 in
        let real : IsCivilDate (pos year) month day = (
          (omega (arith, signed_arith), omega (arith, signed_arith, small)),
          (leb-true 1 month months.0, leb-true month 12 months.1),
          (leb-true 1 day days.0, leb-true day (days_in_month (pos year) month) days.1),
        ) in
        let same : unsigned_abs (days_from_civil (pos year) month day) ≡ n = cc e in
        subst (λ (k : ℕ). k ≤ 2932896) same (day_number year month day late real).1

parts_within : (year month day : Option ℕ) (n : ℕ) → ((y : ℕ) → year ≡ Some y → y ≤ 9999)
    → day_of_parts year month day ≡ Some n → n ≤ 2932896
parts_within (Some year) (Some month) (Some day) n small is = day_within year month day n (small year refl) is
parts_within None month day n small is = absurd (cc is)
parts_within (Some year) None day n small is = absurd (cc is)
parts_within (Some year) (Some month) None n small is = absurd (cc is)

date_within : (text : List ℕ) (n : ℕ) → date text ≡ Some n → n ≤ 2932896
unfolding date
date_within text n is =
    by (length text == 10 && (slice_index text 4 == 45 && slice_index text 7 == 45)) is
  where
    by : (t : Bool)
        → (if t then day_of_parts (number 9999 (slice_range text 0 4)) (number 99 (slice_range text 5 7))
        (number 99 (slice_range text 8 10)) else None) ≡ Some n → n ≤ 2932896
    by true e =
        parts_within (number 9999 (slice_range text 0 4)) (number 99 (slice_range text 5 7))
        (number 99 (slice_range text 8 10)) n (number_within 9999 (slice_range text 0 4)) e
    by false e = absurd (cc e)

-- ---- a time of day

three_within : (hour minute second : Option ℕ) (n : ℕ) → ((h : ℕ) → hour ≡ Some h → h ≤ 23)
    → ((m : ℕ) → minute ≡ Some m → m ≤ 59) → ((s : ℕ) → second ≡ Some s → s ≤ 59)
    → seconds_of hour minute second ≡ Some n → n < 86400
three_within (Some h) (Some m) (Some s) n fh fm fs is =
    let same : 3600 * h + 60 * m + s ≡ n = cc is in
    omega (arith, same, fh h refl, fm m refl, fs s refl)
three_within None m s n fh fm fs is = absurd (cc is)
three_within (Some h) None s n fh fm fs is = absurd (cc is)
three_within (Some h) (Some m) None n fh fm fs is = absurd (cc is)

time_within : (text : List ℕ) (n : ℕ) → time_of_day text ≡ Some n → n < 86400
unfolding time_of_day
time_within text n is =
    by (length text == 8 && (slice_index text 2 == 58 && slice_index text 5 == 58)) is
  where
    by : (t : Bool)
        → (if t then seconds_of (number 23 (slice_range text 0 2)) (number 59 (slice_range text 3 5))
        (number 59 (slice_range text 6 8)) else None) ≡ Some n → n < 86400
    by true e =
        three_within (number 23 (slice_range text 0 2)) (number 59 (slice_range text 3 5))
        (number 59 (slice_range text 6 8)) n (number_within 23 (slice_range text 0 2))
        (number_within 59 (slice_range text 3 5)) (number_within 59 (slice_range text 6 8)) e
    by false e = absurd (cc e)

-- ---- a moment

uncapped : (days seconds : ℕ) → days ≤ 2932896 → seconds < 86400
    → moment_of (86400 * days + seconds) ≡ 86400 * days + seconds
uncapped days seconds early within = omega (arith, early, within)

-- what was read before, and what came of it
next_read : {X Y : Type 0} (found : Result X ℕ) (more : X → Result Y ℕ) (y : Y) → next found more ≡ Ok y
    → (x : X) × (found ≡ Ok x) × (more x ≡ Ok y)
next_read (Ok x) more y is = (x, refl, is)
next_read (Err place) more y is = absurd (cc is)

field_read : {X : Type 0} (argument : Argument) (found : Option X) (x : X) → field argument found ≡ Ok x → found ≡ Some x
field_read argument None x is = absurd (cc is)
field_read argument (Some y) x is = cc is

-- of a day and a second of it that were read
moment_read : (d t : Argument) (days seconds : ℕ) → field d (date d.text) ≡ Ok days
    → field t (time_of_day t.text) ≡ Ok seconds → moment_of (86400 * days + seconds) ≡ 86400 * days + seconds
moment_read d t days seconds day time =
    uncapped days seconds (date_within d.text days (field_read d (date d.text) days day))
    (time_within t.text seconds (field_read t (time_of_day t.text) seconds time))

abbrev number_ok : ℕ → Result ℕ ℕ
number_ok n = Ok n

times_whole : (item : Item) (moment : ℕ) → time_of item ≡ Ok moment → moment_of moment ≡ moment
times_whole item moment is =
    let a0 = arguments_of item in
    let first = front item.place a0 in
    let second = front item.place (others a0) in
    let m1 = λ (days seconds : ℕ). number_ok (86400 * days + seconds) in
    let m0 = λ (days : ℕ). next (field second (time_of_day second.text)) (m1 days) in
    let d = next_read (field first (date first.text)) m0 moment is in
    let s = next_read (field second (time_of_day second.text)) (m1 d.0) moment d.2 in
    let same : 86400 * d.0 + s.0 ≡ moment = cc (s.2) in
    subst (λ (n : ℕ). moment_of n ≡ n) same (moment_read first second d.0 s.0 d.1 s.1)

-- ---- a relay

abbrev line_made : Span → Fingerprint → Digest1 → ℕ → ℕ → ℕ → ℕ → ℕ → Result RelayLine ℕ
line_made nickname key digest days seconds ip or_port dir_port = Ok (record {
  nickname = nickname;
  identity = key;
  digest = digest;
  published = 86400 * days + seconds;
  ip = ip;
  or_port = or_port;
  dir_port = dir_port;
})

published_is : (nickname : Span) (key : Fingerprint) (digest : Digest1) (days seconds ip or_port dir_port : ℕ)
    (relay : RelayLine) → line_made nickname key digest days seconds ip or_port dir_port ≡ Ok relay
    → 86400 * days + seconds ≡ relay.published
published_is nickname key digest days seconds ip or_port dir_port relay is = ap published_of is
  where
    published_of : Result RelayLine ℕ → ℕ
    published_of (Ok r) = r.published
    published_of (Err place) = 0

-- of a line that is read from left to right, with the digest of a descriptor or without
relay_whole : (name key date_ time_ ip or_port dir_port : Argument) (digest : Result Digest1 ℕ) (relay : RelayLine)
    → next (field name (span_if (is_nickname name.text) name)) (λ n.
    next (field key (identity key.text)) (λ k.
    next digest (λ g.
    next (field date_ (date date_.text)) (λ days.
    next (field time_ (time_of_day time_.text)) (λ seconds.
    next (field ip (address ip.text)) (λ i.
    next (field or_port (port_of or_port.text)) (λ o.
    next (field dir_port (port_of dir_port.text)) (λ d.
    line_made n k g days seconds i o d)))))))) ≡ Ok relay
    → moment_of relay.published ≡ relay.published
relay_whole name key date_ time_ ip or_port dir_port digest relay is =
    let m7 = λ (n : Span) (k : Fingerprint) (g : Digest1) (days seconds i o d : ℕ). line_made n k g days seconds i o d in
    let m6 = λ (n : Span) (k : Fingerprint) (g : Digest1) (days seconds i o : ℕ).
    next (field dir_port (port_of dir_port.text)) (m7 n k g days seconds i o) in
    let m5 = λ (n : Span) (k : Fingerprint) (g : Digest1) (days seconds i : ℕ).
    next (field or_port (port_of or_port.text)) (m6 n k g days seconds i) in
    let m4 = λ (n : Span) (k : Fingerprint) (g : Digest1) (days seconds : ℕ).
    next (field ip (address ip.text)) (m5 n k g days seconds) in
    let m3 = λ (n : Span) (k : Fingerprint) (g : Digest1) (days : ℕ).
    next (field time_ (time_of_day time_.text)) (m4 n k g days) in
    let m2 = λ (n : Span) (k : Fingerprint) (g : Digest1). next (field date_ (date date_.text)) (m3 n k g) in
    let m1 = λ (n : Span) (k : Fingerprint). next digest (m2 n k) in
    let m0 = λ (n : Span). next (field key (identity key.text)) (m1 n) in
    let n = next_read (field name (span_if (is_nickname name.text) name)) m0 relay is in
    let k = next_read (field key (identity key.text)) (m1 n.0) relay n.2 in
    let g = next_read digest (m2 n.0 k.0) relay k.2 in
    let day = next_read (field date_ (date date_.text)) (m3 n.0 k.0 g.0) relay g.2 in
    let second = next_read (field time_ (time_of_day time_.text)) (m4 n.0 k.0 g.0 day.0) relay day.2 in
    let i = next_read (field ip (address ip.text)) (m5 n.0 k.0 g.0 day.0 second.0) relay second.2 in
    let o = next_read (field or_port (port_of or_port.text)) (m6 n.0 k.0 g.0 day.0 second.0 i.0) relay i.2 in
    let d = next_read (field dir_port (port_of dir_port.text)) (m7 n.0 k.0 g.0 day.0 second.0 i.0 o.0) relay o.2 in
    subst (λ (n : ℕ). moment_of n ≡ n) {x = 86400 * day.0 + second.0} (published_is n.0 k.0 g.0 day.0 second.0 i.0 o.0 d.0 relay d.2)
    (moment_read date_ time_ day.0 second.0 day.1 second.1)

votes_whole : (item : Item) (relay : RelayLine) → vote.relay_of item ≡ Ok relay → moment_of relay.published ≡ relay.published
votes_whole item relay is =
    let a1 = others (arguments_of item) in
    let a2 = others a1 in
    let a3 = others a2 in
    let a4 = others a3 in
    let a5 = others a4 in
    let a6 = others a5 in
    let a7 = others a6 in
    let digest = front item.place a2 in
    relay_whole (front item.place (arguments_of item)) (front item.place a1) (front item.place a3) (front item.place a4)
    (front item.place a5) (front item.place a6) (front item.place a7) (field digest (digest1 digest.text)) relay is

consensuses_whole : (flavour : Flavour) (item : Item) (relay : RelayLine) → consensus.relay_of flavour item ≡ Ok relay
    → moment_of relay.published ≡ relay.published
consensuses_whole flavour item relay is =
    let a1 = others (arguments_of item) in
    let a2 = others a1 in
    let a3 = after_digest flavour a2 in
    let a4 = others a3 in
    let a5 = others a4 in
    let a6 = others a5 in
    let a7 = others a6 in
    relay_whole (front item.place (arguments_of item)) (front item.place a1) (front item.place a3) (front item.place a4)
    (front item.place a5) (front item.place a6) (front item.place a7) (digest_here flavour item.place a2) relay is

pub moments_whole : MomentsAreNotCapped
moments_whole = record { times = times_whole; votes = votes_whole; consensuses = consensuses_whole }
