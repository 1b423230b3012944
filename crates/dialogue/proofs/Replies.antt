-- Writing a reply: numbers into a part of it, and ids one after another.
use mathlib.Core.Path.{◌≡◌, refl, sym, ap, ◌∙◌}
use mathlib.Core.List.{List, [], ◌∷◌, ◌++◌, append_assoc, append-nil}
use Prim.Native.Nat.{ℕ, suc, ◌+◌, ◌-◌, ◌*◌, ◌^◌, ◌≤◌, ◌<◌}
use native.Mathlib.Numerals.{add-one}
use native.Mathlib.Omega.{arith}
use lib.ListN.{length, take, drop, get_or, set, length-append, length-set, length-take, length-drop, drop_of_length-le}
use lib.Seq.{sets, sets-eq, length-sets, drop-cons, drop-length, drop-drop, take_all}
use Rattle.lists.proofs.Stores.{sets_append}
use Rattle.text.specs.Bytes.{space}
use Rattle.text.specs.Decimal.{decimal, Written, written, written_of}
use Rattle.lists.specs.Lists.{over}
use Rattle.text.proofs.Writing.{ten_digits, fits-front}
use Rattle.dialogue.specs.Reply.{most_digits, id_bytes, PutAt}

-- bytes written over the front of the reply's part from a place on are stores from that place on
pub part_over : (reply : List ℕ) (at : ℕ) (v part : List ℕ) → at + length v ≤ length reply → part ≡ over v (take (length reply - at) (drop at reply))
    → take at reply ++ (part ++ drop (length reply - at) (drop at reply)) ≡ sets reply at v
unfolding over
part_over reply at v part h e =
    let rest = length-drop at reply in
    let none : drop (length reply - at) (drop at reply) ≡ [] = drop_of_length-le (drop at reply) {i = length reply - at} (rw rest (omega arith)) in
    let all : take (length reply - at) (drop at reply) ≡ drop at reply = take_all (length reply - at) (drop at reply) (rw rest (omega arith)) in
    rw (none, append-nil, e, all, drop-drop) (sym (sets-eq v reply at h ∙ append_assoc (take at reply) v _))

-- and so is a number written there, which has room
pub number_put : (reply : List ℕ) (at n : ℕ) → n < 2 ^ 32 → at + most_digits ≤ length reply → {count : ℕ} {part : List ℕ}
    → written count part ≡ written_of n (take (length reply - at) (drop at reply))
    → (count ≡ length (decimal n)) × (take at reply ++ (part ++ drop (length reply - at) (drop at reply)) ≡ sets reply at (decimal n))
number_put reply at n b h e =
    let rest = length-drop at reply in
    let few = ten_digits n b in
    let room : length (decimal n) ≤ length (take (length reply - at) (drop at reply)) = simp (length-take, length-drop) (omega arith) in
    let done = e ∙ fits-front n _ room in
    (ap (λ (w : Written). w.count) done, part_over reply at (decimal n) _ (omega arith) (ap (λ (w : Written). w.bytes) done))

-- the reply has the first i ids, and room for the others
pub record Putting (reply₀ reply : List ℕ) (at to : ℕ) (ids : List ℕ) (i : ℕ) : Type 0 where
  pub all : sets reply to (id_bytes (drop i ids)) ≡ sets reply₀ at (id_bytes ids)
  pub many : to + length (id_bytes (drop i ids)) ≡ at + length (id_bytes ids)
  pub long : length reply ≡ length reply₀
  pub room : to + (most_digits + 1) * (length ids - i) ≤ length reply₀
  pub upto : i ≤ length ids
  pub short : to ≤ at + (most_digits + 1) * i

pub putting_start : (reply : List ℕ) (at : ℕ) (ids : List ℕ) → at + (most_digits + 1) * length ids ≤ length reply → Putting reply reply at at ids 0
putting_start reply at ids h = record { all = refl; many = refl; long = refl; room = omega arith; upto = omega arith; short = omega arith }

pub putting_turn : {reply₀ reply reply' : List ℕ} {at to to' : ℕ} {ids : List ℕ} {i : ℕ}
    → Putting reply₀ reply at to ids i → i < length ids → get_or ids i 0 < 2 ^ 32
    → (to' ≡ to + 1 + length (decimal (get_or ids i 0))) × (reply' ≡ sets (set reply to space) (to + 1) (decimal (get_or ids i 0)))
    → Putting reply₀ reply' at to' ids (i + 1)
unfolding id_bytes
putting_turn {reply₀} {reply} {reply'} {at} {to} {to'} {ids} {i} w h b e =
    let x = get_or ids i 0 in
    let rest = id_bytes (drop (i + 1) ids) in
    let split : id_bytes (drop i ids) ≡ (space ∷ decimal x) ++ rest = rw add-one (ap id_bytes (drop-cons ids i 0 h)) in
    let count = ap length split ∙ length-append (space ∷ decimal x) rest in
    let few = ten_digits x b in
    let next : to + suc (length (decimal x)) ≡ to' = omega (arith, e.0) in
    record {
      all = rw e.1 (sym (ap (sets reply to) split ∙ sets_append reply to (space ∷ decimal x) rest ∙ rw (next, add-one to))) ∙ w.all;
      many = omega (arith, w.many, count, e.0);
      long = rw e.1 (length-sets (set reply to space) (to + 1) (decimal x) ∙ length-set reply to space ∙ w.long);
      room = omega (arith, w.room, e.0);
      upto = omega arith;
      short = omega (arith, w.short, e.0);
    }

pub putting_end : {reply₀ reply : List ℕ} {at to : ℕ} {ids : List ℕ} {i : ℕ} → Putting reply₀ reply at to ids i → length ids ≤ i
    → (to ≤ at + (most_digits + 1) * length ids) × PutAt at (id_bytes ids) reply₀ reply to
unfolding id_bytes
putting_end {reply₀} {reply} {at} {to} {ids} {i} w h =
    let e : i ≡ length ids = omega (arith, w.upto) in
    let none : drop i ids ≡ [] = rw e (drop-length ids) in
    let many : to + 0 ≡ at + length (id_bytes ids) = rw none at w.many in
    (omega (arith, w.short), (omega arith, rw none at w.all))

-- three runs of bytes, each put where the one before it ends
pub three_puts : (l v u w : List ℕ) {l₁ l₂ l₃ : List ℕ} {n₁ n₂ n₃ : ℕ} → PutAt 0 v l l₁ n₁ → PutAt n₁ u l₁ l₂ n₂ → PutAt n₂ w l₂ l₃ n₃
    → (n₃ ≡ length (v ++ (u ++ w))) × (l₃ ≡ sets l 0 (v ++ (u ++ w)))
three_puts l v u w {l₁} {l₂} {l₃} {n₁} {n₂} {n₃} a b c =
    let count = length-append v (u ++ w) in
    let more = length-append u w in (
      omega (arith, a.0, b.0, c.0),
      c.1 ∙ sym (sets_append l 0 v (u ++ w) ∙ rw (← a.1, ← a.0) (sets_append l₁ n₁ u w ∙ rw (← b.1, ← b.0))),
    )
