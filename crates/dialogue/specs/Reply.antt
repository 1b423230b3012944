-- Document 01, the session program: the bytes that it writes.
use Rattle.std.specs.Prelude.{◌≡◌, List, [], ◌∷◌, ◌++◌, ℕ, ◌+◌, ◌≤◌, length, Err, Ok}
use Prim.Native.Char.{code}
use Rattle.std.proofs.lemmas.List.Edits.{sets}
use Rattle.layout.specs.Outcomes.{Outcome}
use Rattle.layout.specs.Refusals.{refusal_number}
use Rattle.text.specs.Bytes.{space, newline}
use Rattle.text.specs.Number as number
use Rattle.text.specs.Decimal.{decimal}

-- the digits of the largest word
abbrev pub most_digits : ℕ
most_digits = number.most_digits

-- "It writes "ok", "refused" and the number, or for Q the count and the ids, one space between"
unfoldable pub ok_bytes : List ℕ
ok_bytes = code "o" ∷ code "k" ∷ []

unfoldable pub refused_bytes : List ℕ
refused_bytes = code "r" ∷ code "e" ∷ code "f" ∷ code "u" ∷ code "s" ∷ code "e" ∷ code "d" ∷ []

unfoldable pub outcome_bytes : Outcome → List ℕ
outcome_bytes (Ok _) = ok_bytes
outcome_bytes (Err r) = refused_bytes ++ (space ∷ decimal (refusal_number r.refusal))

unfoldable pub id_bytes : List ℕ → List ℕ
id_bytes [] = []
id_bytes (i ∷ ids) = (space ∷ decimal i) ++ id_bytes ids

unfoldable pub list_bytes : List ℕ → List ℕ
list_bytes ids = decimal (length ids) ++ id_bytes ids

-- for a question: the count and the ids, or the refusal
unfoldable pub answer_bytes : Outcome → (ids : List ℕ) → List ℕ
answer_bytes (Ok _) ids = list_bytes ids
answer_bytes (Err r) ids = outcome_bytes (Err r)

-- "a malformed line writes "bad line""
unfoldable pub bad_line_bytes : List ℕ
bad_line_bytes = code "b" ∷ code "a" ∷ code "d" ∷ space ∷ code "l" ∷ code "i" ∷ code "n" ∷ code "e" ∷ []

-- each answer is a line
unfoldable pub as_line : List ℕ → List ℕ
as_line l = l ++ (newline ∷ [])

-- no line that lists no ids is longer
abbrev pub short_reply : ℕ
short_reply = 32

-- these bytes were put into the reply at a place, and the next go to r
abbrev pub PutAt : (at : ℕ) → (bytes reply₀ reply : List ℕ) → (r : ℕ) → Type 0
PutAt at bytes reply₀ reply r = (r ≡ at + length bytes) × (reply ≡ sets reply₀ at bytes)

-- this line was written into the reply from its front, and has r bytes, for which there is room
abbrev pub Wrote : (line reply₀ reply : List ℕ) → (r : ℕ) → Type 0
Wrote line reply₀ reply r = (r ≡ length (as_line line)) × (reply ≡ sets reply₀ 0 (as_line line)) × (r ≤ length reply₀)
