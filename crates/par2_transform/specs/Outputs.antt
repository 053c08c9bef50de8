-- Outputs and columns of them inside buffers, and blocks of outputs with the sums gathered for them.
use Rattle.std.specs.Prelude.{ℕ, ◌≤◌, ◌+◌, ◌-◌, List, Vec, ◌≡◌, ◌<◌, ◌*◌, ◌^◌, bit_xor, [], length, slice_index, slice_index_or}
use Rattle.std.specs.declared.alloc.Global.{Global}
use Rattle.par2_spec.specs.Prelude.{lists_of, field_sum, list_at, mul, pow, Bor}
use Rattle.par2_transform.specs.Rows.{within, AddsAt, LieWithin, Grid, column, HasSize}
use Rattle.par2_transform.specs.Chirps.{byte_lists, from_gathered, recovered, word_at_power, Cut, HasWeights, window_value, words_at}
use Rattle.par2_transform.specs.declared.outputs.Columns.{Columns}
use Rattle.par2_transform.specs.declared.outputs.Places.{Places}
use Rattle.par2_transform.specs.declared.exponents.Class.{Class}
use Rattle.par2_transform.specs.declared.exponents.Plan.{Plan}
use Rattle.par2_transform.specs.Locators.{numerator, quotient_sum}
use Rattle.par2_transform.specs.declared.locator.Locator.{Locator}
use Rattle.par2_transform.specs.declared.locator.Numerators.{Numerators}

-- the buffers have all bytes of the outputs
abbrev pub LieIn : Places → List (Vec ℕ Global) → Type 0
LieIn outputs buffers = LieWithin outputs.words outputs.places.now (lists_of buffers)

-- to word p of output t, `other t p` is added, and nothing else in the buffers changes
abbrev pub Adds : Places → (ℕ → ℕ → ℕ) → List (Vec ℕ Global) → List (Vec ℕ Global) → Type 0
Adds outputs other old new = AddsAt outputs.places.now outputs.words other (lists_of old) (lists_of new)

-- the same in these columns alone
abbrev pub AddsIn : Columns → (ℕ → ℕ → ℕ) → List (Vec ℕ Global) → List (Vec ℕ Global) → Type 0
AddsIn columns other = Adds columns.outputs (λ t p. within columns.from columns.to p (other t p))

-- to output t, word c of the row is added in column `from + c`, for all of these columns
abbrev pub AddsRow : Columns → ℕ → (ℕ → ℕ) → List (Vec ℕ Global) → List (Vec ℕ Global) → Type 0
AddsRow columns t row = Adds columns.outputs (λ s p. within t (t + 1) s (within columns.from columns.to p (row (p - columns.from))))

-- to output t, the recovery slice of exponent `first + t` is added
abbrev pub AddsSlices : List (Bor (List ℕ)) → ℕ → Places → List (Vec ℕ Global) → List (Vec ℕ Global) → Type 0
AddsSlices slices first outputs = Adds outputs (λ t p. recovered (byte_lists slices) (first + t) p)

-- rows of `width` words have all of these columns, and the buffers have all bytes of the outputs
pub record Fit (width : ℕ) (columns : Columns) (buffers : List (Vec ℕ Global)) : Type 0 where
  pub narrow : columns.to ≤ columns.from + width
  pub room : LieIn columns.outputs buffers

-- there is an output for each point, the rows have the locator's shape and all of the columns, and the outputs lie in the buffers
pub record Serves (locator : Locator) (columns : Columns) (rows : Grid) (buffers : List (Vec ℕ Global)) : Type 0 where
  pub count : length columns.outputs.places.now ≡ length locator.points.items
  pub levels : rows.levels ≡ locator.numerators.levels
  pub fits : Fit rows.words columns buffers

-- word p of numerator t over the sources
abbrev pub numerator_word : Numerators → List (Bor (List ℕ)) → ℕ → ℕ → ℕ
numerator_word numerators sources t p = numerator numerators.sequence.items (words_at (byte_lists sources) p) t

-- word p of the sum of the sources, each times its coefficient of the quotient for point t
abbrev pub quotient_word : Locator → List (Bor (List ℕ)) → ℕ → ℕ → ℕ
quotient_word locator sources t p = quotient_sum locator.numerators.sequence.items locator.points.items locator.factors.items (words_at (byte_lists sources) p) t

-- the weight of a window at a point
abbrev pub weight_at : List (List ℕ) → ℕ → ℕ → ℕ
weight_at rows a u = slice_index (list_at rows a) u

-- consecutive outputs: the exponent of the first one, a weight for each window and point, and the sums gathered so far
pub record Outputs : Type 0 where
  pub exponent : ℕ
  pub windows : ℕ
  pub weights : List (List ℕ)
  pub sums : Grid

-- each window has a weight for each point, and all weights are elements
pub record AreWeightRows (levels : ℕ) (rows : List (List ℕ)) : Type 0 where
  pub size : (a : ℕ) → a < length rows → length (list_at rows a) ≡ 2 ^ levels
  pub fit : (a u : ℕ) → slice_index (list_at rows a) u < 2 ^ 16

-- a block of the outputs from exponent e on: of this cut, and with this many columns of words
pub record IsBlock (cut : Cut) (columns e : ℕ) (block : Outputs) : Type 0 where
  pub exponent : block.exponent ≡ e
  pub windows : block.windows ≡ cut.windows
  pub has : HasWeights cut e (weight_at block.weights)
  pub levels : block.sums.levels ≡ cut.levels
  pub words : block.sums.words ≡ columns

-- only the gathered sums differ
pub record Keeps (old new : Outputs) : Type 0 where
  pub exponent : new.exponent ≡ old.exponent
  pub windows : new.windows ≡ old.windows
  pub weights : new.weights ≡ old.weights
  pub levels : new.sums.levels ≡ old.sums.levels
  pub words : new.sums.words ≡ old.sums.words

-- the gathered sums are zero
pub record IsCleared (old new : Outputs) : Type 0 where
  pub kept : Keeps old new
  pub zero : (c u : ℕ) → column new.sums c u ≡ 0

-- to the first n rows, the values are added, each times the weight of its row
pub record RowsGathered (weights : ℕ → ℕ) (values : Grid) (n : ℕ) (old new : Grid) : Type 0 where
  pub levels : new.levels ≡ old.levels
  pub words : new.words ≡ old.words
  pub done : (c u : ℕ) → c < old.words → u < n → column new c u ≡ bit_xor (column old c u) (mul (weights u) (column values c u))
  pub rest : (c u : ℕ) → n ≤ u → column new c u ≡ column old c u

-- the values of window a at the points are gathered, each times its weight
pub record Gathers (a : ℕ) (values : Grid) (old new : Outputs) : Type 0 where
  pub kept : Keeps old new
  pub added : (c u : ℕ) → c < old.sums.words → u < 2 ^ old.sums.levels
      → column new.sums c u ≡ bit_xor (column old.sums c u) (mul (weight_at old.weights a u) (column values c u))

-- the block has weights for window a and as many points and columns as the values
pub record Takes (a : ℕ) (values : Grid) (block : Outputs) : Type 0 where
  pub window : a < block.windows
  pub levels : values.levels ≡ block.sums.levels
  pub words : values.words ≡ block.sums.words

-- the first n windows of class r are gathered, and nothing else
pub record IsGathered (cut : Cut) (slices : List (List ℕ)) (r from n : ℕ) (old new : Outputs) : Type 0 where
  pub kept : Keeps old new
  pub sums : (c u : ℕ) → c < old.sums.words → u < 2 ^ cut.levels
      → column new.sums c u ≡ field_sum n (λ a. mul (weight_at old.weights a u) (window_value cut (words_at slices (from + c)) r a u))

-- the block has the shape of this cut, and this many columns
pub record HasShape (cut : Cut) (columns : ℕ) (block : Outputs) : Type 0 where
  pub windows : block.windows ≡ cut.windows
  pub levels : block.sums.levels ≡ cut.levels
  pub words : block.sums.words ≡ columns

-- block j, or an empty one past the end
abbrev pub outputs_at : List Outputs → ℕ → Outputs
outputs_at blocks j = slice_index_or blocks j (record { exponent = 0; windows = 0; weights = []; sums = record { levels = 0; words = 0; vectors = [] } })

-- the first n blocks change by the relation, and no other block changes
pub record BlocksBecome (relation : Outputs → Outputs → Type 0) (n : ℕ) (old new : List Outputs) : Type 0 where
  pub count : length new ≡ length old
  pub done : (j : ℕ) → j < n → relation (outputs_at old j) (outputs_at new j)
  pub rest : (j : ℕ) → n ≤ j → outputs_at new j ≡ outputs_at old j

-- each block changes by the relation
abbrev pub EachBlock : (Outputs → Outputs → Type 0) → List Outputs → List Outputs → Type 0
EachBlock relation old new = BlocksBecome relation (length old) old new

-- the blocks, of `size` outputs each, cover the n outputs from exponent `first` on
pub record CoverOutputs (cut : Cut) (columns first size n : ℕ) (blocks : List Outputs) : Type 0 where
  pub each : (j : ℕ) → j < length blocks → IsBlock cut columns (first + j * size) (outputs_at blocks j)
  pub covered : n ≤ length blocks * size
  pub few : first + length blocks * size ≤ 2 ^ 34

-- the part of class r in a word of the recovery slice of exponent e: the sum over the slices of this class alone
abbrev pub class_sum_at : Cut → (ℕ → ℕ) → ℕ → ℕ → ℕ
class_sum_at cut words e r =
    field_sum (cut.windows * cut.window) (λ m. mul (pow 2 (e * (cut.classes * m + r))) (word_at_power words (cut.classes * m + r)))

-- the cut by the numbers of a plan; its blocks and columns have no part in the sums
abbrev pub cut_of : Plan → Cut
cut_of plan = record { classes = plan.classes; windows = plan.windows; window = plan.window; levels = plan.levels }

-- all blocks have the shape of the plan
abbrev pub HaveShape : Plan → List Outputs → Type 0
HaveShape plan blocks = (j : ℕ) → j < length blocks → HasShape (cut_of plan) plan.columns (outputs_at blocks j)

-- the rows have the shape of the plan, and its blocks cover the outputs, whose exponents are those from `first` on
pub record AreReady (plan : Plan) (first : ℕ) (outputs : Places) (rows : Grid) (blocks : List Outputs) : Type 0 where
  pub size : HasSize plan.levels plan.columns rows
  pub cover : CoverOutputs (cut_of plan) plan.columns first plan.block (length outputs.places.now) blocks

-- the part of a class in word p of output t, from the sums of the block whose first output is that of index `first`
abbrev pub part_from : Class → Columns → Outputs → ℕ → ℕ → ℕ → ℕ
part_from class columns block first t p =
    within first (first + class.plan.block) t
    (within columns.from columns.to p (from_gathered (cut_of class.plan) (column block.sums (p - columns.from)) block.exponent (t - first) class.number))
