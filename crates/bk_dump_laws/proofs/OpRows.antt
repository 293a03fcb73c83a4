-- The rows of the ops that stand in a text: which has a number in its row, and of which bytes its name is.
use Rattle.std.proofs.Common.{◌≡◌, ℕ, List, [], ◌∷◌, ◌++◌, ap, ◌∙◌, refl, Bool, true, false, cond}
use Rattle.std.specs.Prelude.{codes, ◌==◌}
use Rattle.std.specs.List.{list_all, AllByRecursion}
use Rattle.bk_ops.specs.declared.family.Family.{Family}
use Rattle.bk_ops.specs.declared.family.Family.TheVariants as family
use Rattle.bk_ops.specs.declared.table.AuxKind.{AuxKind}
use Rattle.bk_ops.specs.declared.table.AuxKind.TheVariants as aux
use Rattle.bk_ops.specs.declared.table.Op.{Op}
use Rattle.bk_ops.specs.Names.{digits, spelled, name_of}
use Rattle.bk_ops.specs.Table.{entry, row, is_op, info_of, unknown}
use Rattle.bk_dump.specs.declared.read.beside.Square.{Square}
use Rattle.bk_dump.specs.declared.read.beside.Square.TheVariants as square
use Rattle.bk_dump.specs.Words.{is_word_byte}
use Rattle.bk_dump.specs.Values.{square_of, is_written}
use Rattle.bk_dump.proofs.Runs.{all_pass}

abbrev pub is_int : AuxKind → Bool
is_int aux.Int = true
is_int _ = false

-- the brackets hold a number that means something
abbrev pub has_int : Square → Bool
has_int square.Number = true
has_int square.Truth = true
has_int _ = false

abbrev AreWordBytes : List ℕ → Type 0
AreWordBytes text = AllByRecursion (λ c. is_word_byte c ≡ true) text

-- what a row says
abbrev IsPlainRow : Family → ℕ → ℕ → Type 0
IsPlainRow f a b = (is_int (row f a b).info.aux ≡ has_int (square_of f)) × (list_all is_word_byte (row f a b).head ≡ true) × (list_all is_word_byte (row f a b).tail ≡ true)

plain_row : (f : Family) (a b : ℕ) → is_written f ≡ true → IsPlainRow f a b
unfolding row entry square_of is_written is_word_byte
plain_row family.Const a b h = (refl, refl, refl)
plain_row family.ConstBool a b h = (refl, refl, refl)
plain_row family.ConstNil a b h = (refl, refl, refl)
plain_row family.Add a b h = (refl, refl, refl)
plain_row family.Sub a b h = (refl, refl, refl)
plain_row family.Mul a b h = (refl, refl, refl)
plain_row family.And a b h = (refl, refl, refl)
plain_row family.Or a b h = (refl, refl, refl)
plain_row family.Xor a b h = (refl, refl, refl)
plain_row family.Neg a b h = (refl, refl, refl)
plain_row family.Com a b h = (refl, refl, refl)
plain_row family.Div a b h = (refl, refl, refl)
plain_row family.Divu a b h = (refl, refl, refl)
plain_row family.Mod a b h = (refl, refl, refl)
plain_row family.Modu a b h = (refl, refl, refl)
plain_row family.Hmul a b h = (refl, refl, refl)
plain_row family.Hmulu a b h = (refl, refl, refl)
plain_row family.Lsh a b h = (refl, refl, refl)
plain_row family.Rsh a b h = (refl, refl, refl)
plain_row family.RshU a b h = (refl, refl, refl)
plain_row family.Eq a b h = (refl, refl, refl)
plain_row family.Neq a b h = (refl, refl, refl)
plain_row family.Less a b h = (refl, refl, refl)
plain_row family.LessU a b h = (refl, refl, refl)
plain_row family.Leq a b h = (refl, refl, refl)
plain_row family.LeqU a b h = (refl, refl, refl)
plain_row family.EqB a b h = (refl, refl, refl)
plain_row family.NeqB a b h = (refl, refl, refl)
plain_row family.AndB a b h = (refl, refl, refl)
plain_row family.OrB a b h = (refl, refl, refl)
plain_row family.Not a b h = (refl, refl, refl)
plain_row family.EqPtr a b h = (refl, refl, refl)
plain_row family.NeqPtr a b h = (refl, refl, refl)
plain_row family.IsNonNil a b h = (refl, refl, refl)
plain_row family.IsInBounds a b h = (refl, refl, refl)
plain_row family.IsSliceInBounds a b h = (refl, refl, refl)
plain_row family.SignExt a b h = (refl, refl, refl)
plain_row family.ZeroExt a b h = (refl, refl, refl)
plain_row family.Trunc a b h = (refl, refl, refl)
plain_row family.CvtBoolToUint8 a b h = (refl, refl, refl)
plain_row family.Signmask a b h = (refl, refl, refl)
plain_row family.Zeromask a b h = (refl, refl, refl)
plain_row family.Ctz32 a b h = (refl, refl, refl)
plain_row family.BitLen32 a b h = (refl, refl, refl)
plain_row family.RotateLeft a b h = (refl, refl, refl)
plain_row family.CondSelect a b h = (refl, refl, refl)
plain_row family.AddPtr a b h = (refl, refl, refl)
plain_row family.SubPtr a b h = (refl, refl, refl)
plain_row family.OffPtr a b h = (refl, refl, refl)
plain_row family.Int64Make a b h = (refl, refl, refl)
plain_row family.Int64Hi a b h = (refl, refl, refl)
plain_row family.Int64Lo a b h = (refl, refl, refl)
plain_row family.AddHi32 a b h = (refl, refl, refl)
plain_row family.SubHi32 a b h = (refl, refl, refl)
plain_row family.Phi a b h = (refl, refl, refl)
plain_row family.Copy a b h = (refl, refl, refl)
plain_row family.Arg a b h = (refl, refl, refl)
plain_row family.InitMem a b h = (refl, refl, refl)
plain_row family.Sp a b h = (refl, refl, refl)
plain_row family.Sb a b h = (refl, refl, refl)
plain_row family.Addr a b h = (refl, refl, refl)
plain_row family.Load a b h = (refl, refl, refl)
plain_row family.Store a b h = (refl, refl, refl)
plain_row family.Zero a b h = (refl, refl, refl)
plain_row family.Move a b h = (refl, refl, refl)
plain_row family.NilCheck a b h = (refl, refl, refl)
plain_row family.PanicBounds a b h = (refl, refl, refl)
plain_row family.StaticLECall a b h = (refl, refl, refl)
plain_row family.SelectN a b h = (refl, refl, refl)
plain_row family.MakeResult a b h = (refl, refl, refl)
plain_row family.ArgWord a b h = absurd (cc)
plain_row family.ArgReg a b h = absurd (cc)
plain_row family.ResWord a b h = absurd (cc)
plain_row family.ResReg a b h = absurd (cc)
plain_row family.OutWord a b h = absurd (cc)
plain_row family.RetWord a b h = absurd (cc)
plain_row family.RetRegs a b h = absurd (cc)
plain_row family.Call a b h = absurd (cc)
plain_row family.CallRegs a b h = absurd (cc)
plain_row family.Trap a b h = absurd (cc)
plain_row (family.Arm op) a b h = absurd (cc)
plain_row (family.Rv op) a b h = absurd (cc)

pub int_is_written : (o : Op) → is_op o.family o.a o.b ≡ true → is_written o.family ≡ true → is_int (info_of o).aux ≡ has_int (square_of o.family)
unfolding info_of
int_is_written o h w = ap (λ b. is_int (cond b (row o.family o.a o.b).info unknown).aux) h ∙ (plain_row o.family o.a o.b w).0

-- The name.

either_words : (b : Bool) (x y : List ℕ) → AreWordBytes x → AreWordBytes y → AreWordBytes (cond b x y)
either_words true x y h g = h
either_words false x y h g = g

digits_are_words : (n : ℕ) → AreWordBytes (digits n)
unfolding digits is_word_byte
digits_are_words n =
    either_words (n == 1) (codes "1") _ (refl, tt) (either_words (n == 2) (codes "2") _ (refl, tt) (either_words (n == 4) (codes "4") _ (refl, tt) (either_words (n == 8) (codes "8") _ (refl, tt)
    (either_words (n == 16) (codes "16") _ (refl, (refl, tt)) (either_words (n == 32) (codes "32") _ (refl, (refl, tt)) (either_words (n == 64) (codes "64") [] (refl, (refl, tt)) tt))))))

words_append : (x y : List ℕ) → AreWordBytes x → AreWordBytes y → AreWordBytes (x ++ y)
words_append [] y h g = g
words_append (c ∷ x) y h g = (h.0, words_append x y h.1 g)

spelled_words : (f : Family) (a b : ℕ) → is_written f ≡ true → AreWordBytes (spelled f a b)
unfolding spelled
spelled_words f a b w =
    let r = plain_row f a b w in
    words_append (row f a b).head _ (all_pass is_word_byte (row f a b).head r.1)
    (words_append (digits a) _ (digits_are_words a) (words_append (row f a b).tail _ (all_pass is_word_byte (row f a b).tail r.2) (digits_are_words b)))

pub name_is_worded : (o : Op) → is_written o.family ≡ true → AllByRecursion (λ c. is_word_byte c ≡ true) (name_of o)
unfolding name_of
name_is_worded o w = either_words (is_op o.family o.a o.b) (spelled o.family o.a o.b) [] (spelled_words o.family o.a o.b w) tt
