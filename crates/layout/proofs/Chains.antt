-- Chains of refusals: where one accepts, every test of it failed; and each test, as the fact that it tests.
use Rattle.std.proofs.Common.{Err, Ok}
use mathlib.Core.Path.{ap, ◌≡◌, refl, sym, ◌∙◌}
use mathlib.Core.Bool.{Bool, true, false, not, ◌&&◌}
use mathlib.Core.List.Memᴰ.{head as here}
use mathlib.Core.List.Memᴰ.{not-nil}
use mathlib.Core.List.Memᴰ.{tail as there}
use mathlib.Core.List.{List, [], ◌∷◌, Memᴰ as Mem}
use Prim.Native.Nat.{ℕ, ◌*◌, ◌/◌, ◌%◌, ◌≤◌, ◌<◌}
use native.Mathlib.Omega.{arith}
use lib.Arith.{le→nltb}
use lib.Dec.{T, ltb, eqb, leb→le, le→leb, eqb→eq, eqb_refl, ltb→lt, nltb→le, T_not, not_T}
use lib.ListN.{length}
use borrow.Author.Tests.{lt-ltb, le-ltb}
use Rattle.lists.proofs.Tests.{agree, of_and, to_and, of_three, to_three, of_nor, to_nor, of_not_not, to_not-not}
use Rattle.ruler.specs.declared.Time.{Time}
use Rattle.ruler.specs.Ruler.{Scale, most_trips, no_later, spans}
use Rattle.trip.specs.declared.Trip.{Trip}
use Rattle.trip.specs.declared.Window.{Window}
use Rattle.trip.specs.Trips.{last_day, never_runs}
use Rattle.layout.specs.declared.Half.TheVariants.{Originals, Replicas}
use Rattle.layout.specs.declared.Refusal.{Refusal}
use Rattle.layout.specs.declared.Rejection.{Rejection}
use Rattle.layout.specs.declared.Refusal.TheVariants.{OffRuler, Backward, NoRoom, NoSuchDay}
use Rattle.layout.specs.Outcomes.{Outcome, Accepted, Refused, rejection}
use Rattle.layout.specs.Words.{entry_words, directory_length, entries, Lengths}
use Rattle.layout.specs.Refusals.{refuse, detail_of, is_accepted, out_of_bounds, bad_size, bad_directory, off_ruler, backward, has_id, no_room, exceeds, no_such_day, time_tests, window_tests, room_test, on_ruler, OnRuler, fits, Fits}

-- ---- one link

pub refused_not : {A : Type 0} (why : Refusal) (d : ℕ) → Refused why d ≡ Accepted → A
refused_not why d e = let z : ◌≡◌ {A = ℕ} 0 1 = cc in absurd (omega arith)

-- a refusal says why
pub refusal_of : {why why' : Refusal} {d d' : ℕ} → Refused why d ≡ Refused why' d' → why ≡ why'
refusal_of {why} e = ap (λ (o : Outcome). elim o [ Ok _ ↦ why | Err r ↦ r.refusal ]) e

pub refuse_no : (b : Bool) (why : Refusal) (d : ℕ) (rest : Outcome) → refuse b why d rest ≡ Accepted → T (not b) × (rest ≡ Accepted)
unfolding refuse
refuse_no true why d rest e = refused_not why d e
refuse_no false why d rest e = (tt, e)

pub refuse_pass : (b : Bool) (why : Refusal) (d : ℕ) (rest : Outcome) → T (not b) → refuse b why d rest ≡ rest
unfolding refuse
refuse_pass true why d rest t = absurd t
refuse_pass false why d rest t = refl

pub refuse_taken : (b : Bool) (why : Refusal) (d : ℕ) (rest : Outcome) → T b → refuse b why d rest ≡ Refused why d
unfolding refuse
refuse_taken true why d rest t = refl
refuse_taken false why d rest t = absurd t

pub of_accepted : (o : Outcome) → T (is_accepted o) → o ≡ Accepted
unfolding is_accepted
of_accepted (Ok _) t = refl
of_accepted (Err r) t = absurd t

-- ---- each test, as a fact

pub of_out_of_bounds : (s : Scale) → T (not (out_of_bounds s)) → T s.good
unfolding out_of_bounds
of_out_of_bounds s t = of_not_not s.good t

pub to_out_of_bounds : (s : Scale) → T s.good → T (not (out_of_bounds s))
unfolding out_of_bounds
to_out_of_bounds s t = to_not-not s.good t

-- whole rows, and not too many
pub record Sized (table : List ℕ) : Type 0 where
  pub whole-rows : length table % entry_words ≡ 0
  pub few-rows : length table / entry_words ≤ most_trips

pub of_bad_size : (table : List ℕ) → T (not (bad_size table)) → Sized table
unfolding bad_size
of_bad_size table t =
    let l = length table in
    let w = of_nor (not (eqb (l % entry_words) 0)) (ltb most_trips (l / entry_words)) t in
    record {
      whole-rows = eqb→eq (l % entry_words) 0 (of_not_not (eqb (l % entry_words) 0) w.0);
      few-rows = nltb→le most_trips (l / entry_words)
          w.1;
    }

pub to_bad_size : (table : List ℕ) → Sized table → T (not (bad_size table))
unfolding bad_size
to_bad_size table z =
    let l = length table in
    to_nor (not (eqb (l % entry_words) 0)) (ltb most_trips (l / entry_words)) (to_not-not (eqb (l % entry_words) 0) (rw z.whole-rows tt))
    (le→nltb most_trips (l / entry_words) z.few-rows)

pub of_bad_directory : (s : Scale) (n : ℕ) → T (not (bad_directory s n)) → n ≡ directory_length s.m
unfolding bad_directory
of_bad_directory s n t = eqb→eq n (directory_length s.m) (of_not_not (eqb n (directory_length s.m)) t)

pub to_bad_directory : (s : Scale) (n : ℕ) → n ≡ directory_length s.m → T (not (bad_directory s n))
unfolding bad_directory
to_bad_directory s n e = to_not-not (eqb n (directory_length s.m)) (rw e (eqb_refl (directory_length s.m)))

-- ---- 4 and 5, of a trip or of a window

pub of_times : (s : Scale) (a b : Time) → T (not (off_ruler s a b)) → T (not (backward a b)) → OnRuler s a b
unfolding off_ruler backward
of_times s a b on not_back =
    let p = of_and (s.has a) (s.has b) (of_not_not (s.has a && s.has b) on) in
    record { starts = p.0; ends = p.1; ordered = nltb→le b.0 a.0 not_back }

pub to_off_ruler : (s : Scale) (a b : Time) → OnRuler s a b → T (not (off_ruler s a b))
unfolding off_ruler
to_off_ruler s a b f = to_not-not (s.has a && s.has b) (to_and (s.has a) (s.has b) f.starts f.ends)

pub to_backward : (s : Scale) (a b : Time) → OnRuler s a b → T (not (backward a b))
unfolding backward
to_backward s a b f = le→nltb b.0 a.0 f.ordered

-- the two tests pass exactly where the times are on the ruler
pub times_pass : (s : Scale) (a b : Time) (k : ℕ) (rest : Outcome) → OnRuler s a b → time_tests s a b k rest ≡ rest
unfolding time_tests
times_pass s a b k rest f = refuse_pass _ _ k _ (to_off_ruler s a b f) ∙ refuse_pass _ _ k _ (to_backward s a b f)

pub times_on : (s : Scale) (a b : Time) (k : ℕ) (rest : Outcome) → time_tests s a b k rest ≡ Accepted → OnRuler s a b
unfolding time_tests
times_on s a b k rest e = let p = refuse_no _ _ k _ e in of_times s a b p.0 (refuse_no _ _ k _ p.1).0

pub of_on_ruler : (s : Scale) (a b : Time) → T (on_ruler s a b) → OnRuler s a b
unfolding on_ruler
of_on_ruler s a b t = times_on s a b 0 Accepted (of_accepted _ t)

pub to_on_ruler : (s : Scale) (a b : Time) → OnRuler s a b → T (on_ruler s a b)
unfolding on_ruler is_accepted
to_on_ruler s a b f = rw (times_pass s a b 0 Accepted f) tt

pub by_spans : (s : Scale) (a b : Time) → spans s a b ≡ on_ruler s a b
by_spans s a b =
    agree (spans s a b) (on_ruler s a b)
    (λ t.
    let f = of_three (s.has a) (s.has b) (no_later a b) t in
    to_on_ruler s a b (record { starts = f.0; ends = f.1; ordered = leb→le a.0 b.0 f.2 }))
    (λ t.
    let f = of_on_ruler s a b t in
    to_three (s.has a) (s.has b) (no_later a b) (f.starts, f.ends, le→leb a.0 b.0 f.ordered))

-- a trip by itself
pub of_fits : (s : Scale) (t : Trip) → T (fits s t) → Fits s t
unfolding fits
of_fits s t h =
    let w = of_and (on_ruler s t.start t.end) (not (never_runs t)) h in
    record { times = of_on_ruler s t.start t.end w.0; runs = w.1 }

pub fits_said : (s : Scale) (t : Trip) {a b : Bool} → a ≡ spans s t.start t.end → b ≡ never_runs t → (a && not b) ≡ fits s t
unfolding fits
fits_said s t e f = rw (e, f, by_spans s t.start t.end)

pub to_fits : (s : Scale) (t : Trip) → Fits s t → T (fits s t)
unfolding fits
to_fits s t f =
    to_and (on_ruler s t.start t.end) (not (never_runs t)) (to_on_ruler s t.start t.end f.times) f.runs

pub of_has_id : (i : ℕ) (ts : List Trip) → T (not (has_id i ts)) → (u : Trip) → Mem u ts → u.id ≡ i → ⊥
unfolding has_id
of_has_id i [] t u m e = not-nil m
of_has_id i (x ∷ ts) t u (here p) e = T_not (eqb x.id i) (of_nor (eqb x.id i) (has_id i ts) t).0 (rw (← e, p) (eqb_refl x.id))
of_has_id i (x ∷ ts) t u (there m) e = of_has_id i ts (of_nor (eqb x.id i) (has_id i ts) t).1 u m e

pub to_has_id : (i : ℕ) (ts : List Trip) → ((u : Trip) → Mem u ts → u.id ≡ i → ⊥) → T (not (has_id i ts))
unfolding has_id
to_has_id i [] h = tt
to_has_id i (x ∷ ts) h =
    to_nor (eqb x.id i) (has_id i ts) (not_T (eqb x.id i) (λ q. h x (here refl) (eqb→eq x.id i q))) (to_has_id i ts (λ u m. h u (there m)))

-- the entries of both halves have room
pub record Room (s : Scale) (ts : List Trip) (n : Lengths) : Type 0 where
  pub for_originals : entry_words * length (entries s Originals ts) ≤ n.originals
  pub for_replicas : entry_words * length (entries s Replicas ts) ≤ n.replicas

pub of_no_room : (s : Scale) (ts : List Trip) (n : Lengths) → T (not (no_room s ts n)) → Room s ts n
unfolding no_room
of_no_room s ts n t =
    let o = entry_words * length (entries s Originals ts) in
    let r = entry_words * length (entries s Replicas ts) in
    let w = of_nor (ltb n.originals o) (ltb n.replicas r) t in
    record { for_originals = nltb→le n.originals o w.0; for_replicas = nltb→le n.replicas r w.1 }

pub to_no_room : (s : Scale) (ts : List Trip) (n : Lengths) → Room s ts n → T (not (no_room s ts n))
unfolding no_room
to_no_room s ts n h =
    let o = entry_words * length (entries s Originals ts) in
    let r = entry_words * length (entries s Replicas ts) in
    to_nor (ltb n.originals o) (ltb n.replicas r) (le→nltb n.originals o h.for_originals) (le→nltb n.replicas r h.for_replicas)

-- ---- 7 of a question

pub has_room : (n room : ℕ) → n ≤ room → room_test n room ≡ Accepted
unfolding room_test exceeds refuse
has_room n room h = rw (le-ltb room n h)

pub no_room_lem : (n room : ℕ) → room < n → room_test n room ≡ Refused NoRoom n
unfolding room_test exceeds refuse
no_room_lem n room h = rw (lt-ltb room n h)

pub of_no_room_lem : (n room d : ℕ) → room_test n room ≡ Refused NoRoom d → (d ≡ n) × (room < n)
unfolding room_test exceeds refuse
of_no_room_lem n room d e = go (ltb room n) (ltb→lt room n) e
  where
    go : (b : Bool) → (T b → room < n) → refuse b NoRoom n Accepted ≡ Refused NoRoom d → (d ≡ n) × (room < n)
    go true h q = (sym (ap detail_of q), h tt)
    go false h q = refused_not NoRoom d (sym q)

pub of_room : (n room : ℕ) → room_test n room ≡ Accepted → n ≤ room
unfolding room_test exceeds
of_room n room e = nltb→le room n (refuse_no _ NoRoom n Accepted e).0

-- ---- 4, 5 and 17 of a question

pub window_on : (s : Scale) (w : Window) (day : ℕ) (rest : Outcome) → window_tests s w day rest ≡ Accepted
    → OnRuler s w.start w.end × (day ≤ last_day)
unfolding window_tests no_such_day
window_on s w day rest e =
    let on = times_on s w.start w.end 0 _ e in
    let c = refuse_no _ _ 0 _ (sym (times_pass s w.start w.end 0 _ on) ∙ e) in
    (on, nltb→le last_day day c.0)

pub window_pass : (s : Scale) (w : Window) (day : ℕ) (rest : Outcome) → window_tests s w day Accepted ≡ Accepted → window_tests s w day rest ≡ rest
unfolding window_tests no_such_day
window_pass s w day rest e =
    let on = window_on s w day Accepted e in
    times_pass s w.start w.end 0 _ on.0 ∙ refuse_pass _ _ 0 _ (le→nltb last_day day on.1)

-- a refusal of the window's stands for every rest, with detail 0
pub window_refused : (s : Scale) (w : Window) (day : ℕ) (r : Rejection) (rest : Outcome) → window_tests s w day Accepted ≡ Err r
    → (window_tests s w day rest ≡ Err r) × (r.detail ≡ 0)
unfolding window_tests time_tests refuse
window_refused s w day r rest e = go (off_ruler s w.start w.end) (backward w.start w.end) (no_such_day day) e
  where
    go : (a b c : Bool) → refuse a OffRuler 0 (refuse b Backward 0 (refuse c NoSuchDay 0 Accepted)) ≡ Err r
        → (refuse a OffRuler 0 (refuse b Backward 0 (refuse c NoSuchDay 0 rest)) ≡ Err r) × (r.detail ≡ 0)
    go true b c q = let p : rejection OffRuler 0 ≡ r = cc in (q, ap (λ (v : Rejection). v.detail) (sym p))
    go false true c q = let p : rejection Backward 0 ≡ r = cc in (q, ap (λ (v : Rejection). v.detail) (sym p))
    go false false true q = let p : rejection NoSuchDay 0 ≡ r = cc in (q, ap (λ (v : Rejection). v.detail) (sym p))
    go false false false q = absurd cc
