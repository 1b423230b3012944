-- The slots of a trip by a walk from level m up to level 0: at each level at most two partitions hold the trip, the first and the last of
-- those that lie in its cells. That the walk visits exactly the slots in which the trip belongs, each once, is the law `walk_once`.
use Rattle.std.specs.Prelude.{Bool, not, ◌&&◌, List, [], ◌∷◌, ◌++◌, ℕ, zero, suc, ◌+◌, ◌*◌, ◌/◌, ◌%◌, ◌<◌, ltb, eqb}
use Rattle.lists.specs.Lists.{cons_if}
use Rattle.ruler.specs.Ruler.{Scale}
use Rattle.trip.specs.declared.Trip.{Trip}
use Rattle.layout.specs.declared.Half.{Half}
use Rattle.layout.specs.declared.Half.TheVariants.{Originals, Replicas}
use Rattle.layout.specs.Words.{slot_number}

-- an entry that is original or not is one of the half
abbrev pub in_half : Half → (is_original : Bool) → Bool
in_half Originals o = o
in_half Replicas o = not o

-- the slot of partition i of level L, if the test passes and a trip whose cells of that level are first .. last has its entry there in this
-- half
unfoldable pub visit : Half → (test : Bool) → (L i first last : ℕ) → List ℕ
visit h test L i first last = cons_if (test && in_half h (eqb first i)) (slot_number L i (not (eqb last i))) []

-- the levels n - 1 .. 0: the partitions of the deepest of them that lie in the trip's cells are lo .. hi - 1
unfoldable pub walk : Half → (n lo hi first last : ℕ) → List ℕ
walk h zero lo hi first last = []
walk h (suc L) lo hi first last =
    visit h (ltb lo hi && eqb (lo % 2) 1) L lo first last
    ++ (visit h (ltb lo hi && eqb (hi % 2) 1) L (hi / 2 * 2) first last
    ++ walk h L ((lo + 1) / 2) (hi / 2) (first / 2) (last / 2))

-- the slots of the half in which a trip with the level-m cells a .. b has an entry
unfoldable pub slots_of : Half → (m a b : ℕ) → List ℕ
slots_of h m a b = walk h (suc m) a (b + 1) a b

unfoldable pub slots_of_trip : Scale → Half → Trip → List ℕ
slots_of_trip s h t = slots_of h s.m (s.cell t.start) (s.cell t.end)

-- every number of a list is below n
pub data Below (n : ℕ) : List ℕ → Type 0 where
  none : Below n []
  also : {c : ℕ} {l : List ℕ} → c < n → Below n l → Below n (c ∷ l)
