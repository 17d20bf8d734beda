-- What holds of every form, with a case for each.
-- Assumes nothing.
use mathlib.Core.Path.{◌≡◌, refl}
use Prim.Native.Nat.{ℕ, ◌*◌, ◌^◌, ◌≤◌, ◌<◌}
use native.Mathlib.Omega.{arith}
use mathlib.Core.Bool.{Bool, true, false}
use mathlib.Core.Option.{none, some, none-ne-some}
use borrow.Author.Tests.{eqb-true, ne_eqb}
use lib.Dec.{eqb}
use Rattle.wire.specs.Choose.{pick}
use Rattle.archive.specs.declared.form.Form.{Form}
use Rattle.archive.specs.declared.form.Form.TheVariants.{One}
use Rattle.archive.specs.Form.{form_number, form_of, offset_width, entry_size, limit, file_size}

-- ---- what fits its bytes

pub number_fits : (f : Form) → form_number f < 256 ^ 2
number_fits One = omega arith

-- an offset, in an entry and in the trailer
pub limit_fits : (f : Form) → limit f < 256 ^ offset_width f
limit_fits One = omega arith

pub limit_small : (f : Form) → limit f < 256 ^ 4
limit_small One = omega arith

-- the number of entries: a record of a message has 18 bytes or more
pub entries_fit : (f : Form) (size n : ℕ) → 18 * n ≤ size → file_size f size n ≤ limit f → n < 256 ^ 2
entries_fit One size n h k = omega arith

-- ---- what the code counts

-- an offset is a number of at most 64 bits
pub width_most : (f : Form) → offset_width f ≤ 8
width_most One = omega arith

-- as many entries have as many bytes or more
pub entries_long : (f : Form) (n : ℕ) → n ≤ entry_size f * n
entries_long One n = omega arith

-- no sum wraps where size and entries are each within the limit
pub size_small : (f : Form) (size n : ℕ) → size ≤ limit f → n ≤ limit f → file_size f size n < 256 ^ 8
size_small One size n h k = omega arith

-- ---- a form and its number

pub form_of_lem : (f : Form) → form_of (form_number f) ≡ some f
form_of_lem One = refl

pub form_back : (k : ℕ) (f : Form) → form_of k ≡ some f → k ≡ form_number f
form_back k One e = eqb-true k 1 (go (eqb k 1) e)
  where
    go : (b : Bool) → pick b (some One) none ≡ some One → b ≡ true
    go true q = refl
    go false q = absurd (none-ne-some One q)

-- the number of none
pub form_none : (k : ℕ) → ((f : Form) → k ≡ form_number f → ⊥) → form_of k ≡ none
form_none k other = rw (ne_eqb k 1 (other One))

-- there is one form
pub one_form : (f : Form) → f ≡ One
one_form One = refl
