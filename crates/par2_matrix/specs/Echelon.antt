-- Reduced row echelon form (Gauss-Jordan elimination): each equation is at the column of its pivot, its row as bytes.
use Rattle.std.specs.Prelude.{ℕ, zero, suc, ◌+◌, ◌*◌, ◌^◌, ◌%◌, ◌<◌, ◌≤◌, ◌≡◌, ◌≢◌, bit_xor, List, [], ◌∷◌, length, slice_index, slice_index_or, Vec, if◌then◌else◌, ◌==◌}
use Rattle.std.specs.declared.alloc.Global.{Global}
use Rattle.par2_spec.specs.Prelude.{mul, word, words, GivesElements, row_sum, list_at, lists_of}
use Rattle.par2_matrix.specs.Systems.{Equations}

-- for each column, the row and the right-hand side of the equation with this pivot, or two empty lists
pub record Echelon : Type 0 where
  pub columns : ℕ
  pub bytes : ℕ
  pub rank : ℕ
  pub rows : List (List ℕ)
  pub right_sides : List (List ℕ)

-- a reduced system from the code's vectors: as many columns as rows, because an absent row is empty
abbrev pub echelon_of : (bytes rank : ℕ) → List (Vec ℕ Global) → List (Vec ℕ Global) → Echelon
echelon_of bytes rank rows right_sides = record { columns = length rows; bytes = bytes; rank = rank; rows = lists_of rows; right_sides = lists_of right_sides }

-- the kept equations, in the order of their pivots
unfoldable pub equations : List (List ℕ) → List (List ℕ) → List (List ℕ × List ℕ)
equations [] right_sides = []
equations (row ∷ rows) [] = []
equations ([] ∷ rows) (right ∷ right_sides) = equations rows right_sides
equations ((b ∷ row) ∷ rows) (right ∷ right_sides) = (words (b ∷ row), right) ∷ equations rows right_sides

-- the kept equations as a system
abbrev pub system_of : Echelon → Equations
system_of e = record { columns = e.columns; bytes = e.bytes; kept = equations e.rows e.right_sides }

-- the number of kept rows below n
unfoldable pub count_present : List (List ℕ) → ℕ → ℕ
count_present rows zero = 0
count_present rows (suc n) = count_present rows n + (if length (list_at rows n) == 0 then 0 else 1)

-- each equation is at its pivot, where its coefficient is 1 and that of every other equation is 0
pub record IsReduced (e : Echelon) : Type 0 where
  pub row_count : length e.rows ≡ e.columns
  pub right_count : length e.right_sides ≡ e.columns
  pub small : (p i : ℕ) → word i (list_at e.rows p) < 2 ^ 16
  pub are_bytes : (p k : ℕ) → slice_index (list_at e.right_sides p) k < 2 ^ 8
  pub even : e.bytes % 2 ≡ 0
  pub absent : (p : ℕ) → length (list_at e.rows p) ≡ 0 → length (list_at e.right_sides p) ≡ 0
  pub row_size : (p : ℕ) → 0 < length (list_at e.rows p) → length (list_at e.rows p) ≡ 2 * e.columns
  pub right_size : (p : ℕ) → 0 < length (list_at e.rows p) → length (list_at e.right_sides p) ≡ e.bytes
  pub pivot : (p : ℕ) → 0 < length (list_at e.rows p) → word p (list_at e.rows p) ≡ 1
  pub cleared : (p q : ℕ) → p ≢ q → 0 < length (list_at e.rows q) → word q (list_at e.rows p) ≡ 0
  pub rank : e.rank ≡ count_present e.rows e.columns

-- f is in the null space: each row sends it to 0
abbrev pub Vanishes : Echelon → (ℕ → ℕ) → Type 0
Vanishes e f = (p : ℕ) → p < e.columns → row_sum e.columns (list_at e.rows p) f ≡ 0

-- the row sends the whole null space of the equations to 0
abbrev pub IsImplied : Echelon → List ℕ → Type 0
IsImplied e row = (f : ℕ → ℕ) → GivesElements f → Vanishes e f → row_sum e.columns row f ≡ 0

-- f solves the equations for word w of the right-hand sides
abbrev pub Meets : Echelon → ℕ → (ℕ → ℕ) → Type 0
Meets e w f = (p : ℕ) → p < e.columns → row_sum e.columns (list_at e.rows p) f ≡ word w (list_at e.right_sides p)

-- word i is x, and the other words are unchanged
pub record WordPut (i x : ℕ) (old new : List ℕ) : Type 0 where
  pub same_length : length new ≡ length old
  pub here : word i new ≡ x
  pub others : (k : ℕ) → k ≢ i → word k new ≡ word k old

-- the words below n are those of the row
pub record HoldsRow (row bytes : List ℕ) (n : ℕ) : Type 0 where
  pub size : length bytes ≡ 2 * length row
  pub each : (i : ℕ) → i < n → i < length row → word i bytes ≡ slice_index row i

-- the words below n are multiplied by c
pub record Scaled (c : ℕ) (old new : List ℕ) (n : ℕ) : Type 0 where
  pub same_length : length new ≡ length old
  pub each : (i : ℕ) → i < n → 2 * i + 1 < length old → word i new ≡ mul c (word i old)
  pub above : (i : ℕ) → n ≤ i → word i new ≡ word i old

-- the old equation became the new one by adding multiples of the equations of e whose pivots are below n
pub record ReducedBelow (e : Echelon) (old_row old_right row right : List ℕ) (n : ℕ) : Type 0 where
  pub row_size : length row ≡ 2 * e.columns
  pub right_size : length right ≡ e.bytes
  pub none : (p : ℕ) → p < n → 0 < length (list_at e.rows p) → word p row ≡ 0
  pub kills : (f : ℕ → ℕ) → GivesElements f → Vanishes e f → row_sum e.columns row f ≡ row_sum e.columns old_row f
  pub solves : (f : ℕ → ℕ) (w : ℕ) → GivesElements f → 2 * w + 1 < e.bytes → Meets e w f
      → bit_xor (row_sum e.columns row f) (word w right) ≡ bit_xor (row_sum e.columns old_row f) (word w old_right)

-- the equation is reduced and scaled, and ready to get its pivot in column q
pub record IsPrepared (e : Echelon) (row0 right0 row right : List ℕ) (q : ℕ) : Type 0 where
  pub bytes0 : (k : ℕ) → slice_index row0 k < 2 ^ 8
  pub right_bytes0 : (k : ℕ) → slice_index right0 k < 2 ^ 8
  pub row1 : List ℕ
  pub right1 : List ℕ
  pub taken : ReducedBelow e row0 right0 row1 right1 e.columns
  pub place : q < e.columns
  pub nonzero : word q row1 ≢ 0
  pub bytes1 : (k : ℕ) → slice_index row1 k < 2 ^ 8
  pub right_bytes1 : (k : ℕ) → slice_index right1 k < 2 ^ 8
  pub factor : ℕ
  pub is_element : factor < 2 ^ 16
  pub entries : (i : ℕ) → i < e.columns → word i row ≡ mul factor (word i row1)
  pub buffers : (w : ℕ) → 2 * w + 1 < e.bytes → word w right ≡ mul factor (word w right1)
  pub row_size : length row ≡ 2 * e.columns
  pub right_size : length right ≡ e.bytes
  pub pivot : word q row ≡ 1

-- column q of the other equations was cleared, and the new equation was put there
pub record PutAt (q : ℕ) (row right : List ℕ) (old_rows old_right_sides rows right_sides : List (List ℕ)) : Type 0 where
  pub at_row : list_at rows q ≡ row
  pub at_right : list_at right_sides q ≡ right
  pub row_bytes : (k : ℕ) → slice_index row k < 2 ^ 8
  pub right_bytes : (k : ℕ) → slice_index right k < 2 ^ 8
  pub row_count : length rows ≡ length old_rows
  pub right_count : length right_sides ≡ length old_right_sides
  pub row_sizes : (p : ℕ) → p ≢ q → length (list_at rows p) ≡ length (list_at old_rows p)
  pub right_sizes : (p : ℕ) → p ≢ q → length (list_at right_sides p) ≡ length (list_at old_right_sides p)
  pub entries : (p i : ℕ) → p ≢ q → p < length old_rows → 2 * i + 1 < length (list_at old_rows p)
      → word i (list_at rows p) ≡ bit_xor (word i (list_at old_rows p)) (mul (word q (list_at old_rows p)) (word i row))
  pub buffers : (p w : ℕ) → p ≢ q → p < length old_rows → 2 * w + 1 < length (list_at old_right_sides p)
      → word w (list_at right_sides p) ≡ bit_xor (word w (list_at old_right_sides p)) (mul (word q (list_at old_rows p)) (word w right))
  pub are_bytes : (p k : ℕ) → p ≢ q → slice_index (list_at right_sides p) k < 2 ^ 8

-- n empty lists
pub record AllEmpty {A : Type 0} (lists : List (List A)) (n : ℕ) : Type 0 where
  pub count : length lists ≡ n
  pub each : (i : ℕ) → slice_index_or lists i [] ≡ []
