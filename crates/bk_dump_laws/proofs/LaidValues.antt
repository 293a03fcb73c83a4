-- The lines of values: read exactly where their parts spell one.
use Rattle.std.proofs.Common.{◌≡◌, ℕ, ℤ, ◌^◌, ◌<◌, ◌≤◌, List, [], ◌∷◌, ◌++◌, length, ap, ◌∙◌, sym, refl, subst, arith, append_assoc, Bool, true, false, cond, Option, Some, None, ◌⊎◌, inl, inr, ⊎_elim}
use Rattle.std.specs.Prelude.{codes, ◌==◌}
use Rattle.std.specs.List.{AllZip}
use Rattle.std.specs.Option.{option_map, option_map_or, is_some}
use Rattle.std.specs.Str.{bytes_eq}
use Rattle.std.specs.Char.{is_ascii_digit}
use Rattle.bk_text.specs.Tokens.{is_blank}
use Rattle.bk_ops.specs.declared.types.Ty.{Ty}
use Rattle.bk_ops.specs.declared.types.Ty.TheVariants.{Tuple}
use Rattle.bk_ops.specs.declared.table.Op.{Op}
use Rattle.bk_ops.specs.declared.family.Family.{Family}
use Rattle.bk_ops.specs.declared.family.Family.TheVariants as family
use Rattle.bk_ops.specs.Reading.{read as op_named, front, back, width_at, family_of, families_of}
use Rattle.bk_dump.specs.declared.read.beside.Braces.{Braces}
use Rattle.bk_dump.specs.declared.read.beside.Braces.TheVariants as braces
use Rattle.bk_dump.specs.declared.read.beside.Square.{Square}
use Rattle.bk_dump.specs.declared.read.beside.Square.TheVariants as square
use Rattle.bk_dump.specs.Front.{◌>>=◌, or_else, unblanked, mark_at, every, up_to}
use Rattle.bk_dump.specs.Words.{is_name_byte, is_plain_byte, is_word_byte, plain_at, word_at, group_at, number_at, numbers_at}
use Rattle.bk_dump.specs.Types.{word_type, is_word_type, with_type as named_with, place_type_at, one_type_at, next_type_at, memory_at, list_at, value_type_at}
use Rattle.bk_dump.specs.Trees.{MentionTree, ValueTree}
use Rattle.bk_dump.specs.Values.{braces_of, square_of, constants_of, is_written, op_at, square_part, braces_part, square_first, braces_first, beside_at, ungrouped, left_at, head_at, groups_at, with_args, value_at}
use Rattle.bk_dump.specs.Parts.{Part, word, mark, Lays, Spells, IsNameOf, IsNumbered, IsGroup, behind_commas, listed}
use Rattle.bk_dump_laws.specs.Lines.{IsPlaceType, IsOneType, IsPlace, IsType, IsBraces, IsSquare, AreGroups, AreValues, IsValueLine}
use Rattle.bk_dump.proofs.Every.{Shrinks}
use Rattle.bk_dump.proofs.Runs.{ascii_named}
use Rattle.bk_dump.proofs.Shrinking.{bind_some, map_some, if_true, next_type_shrinks}
use Rattle.bk_dump_laws.proofs.Laying.{some_is, word_unmarked, mark_reads, mark_lays, other_mark, blank_unmarked, Halts, plain_lays, plain_reads, word_lays, word_reads}
use Rattle.bk_dump_laws.proofs.LaidNumbers.{number_is, first_lays, first_reads, numbers_lays, numbers_reads, NoWord, free}
use Rattle.bk_dump_laws.proofs.LaidGroups.{group_lays, group_reads, groups_lays, groups_reads, group_of}
use Rattle.bk_dump_laws.proofs.LaidBlocks.{either}
use Rattle.bk_dump_laws.proofs.LaidEnds.{groups_word, groups_end, same_bytes}
use Rattle.bk_dump_laws.proofs.LaidLists.{ReadsItem, next_at, commas_lay, commas_read, commas_word, commas_halt, comma_halts}
use Rattle.bk_dump_laws.proofs.LaidTypes.{place_item, one_item, IsOne, one_of_place, is_word, word_is}
use Rattle.bk_dump_laws.proofs.SpelledTypes.{memory_is_no_word}
use Rattle.bk_dump_laws.proofs.LaidBeside.{Lacks, square_lays, square_reads, braces_lays, braces_reads}

-- Types between `<` and `>`.

commas_append : (xs ys : List (List Part)) → behind_commas (xs ++ ys) ≡ behind_commas xs ++ behind_commas ys
commas_append [] ys = refl
commas_append (x ∷ xs) ys = ap (λ ps. mark (codes ",") ∷ (x ++ ps)) (commas_append xs ys) ∙ ap (λ ps. mark (codes ",") ∷ ps) (sym (append_assoc x (behind_commas xs) (behind_commas ys)))

abbrev memory_parts : List Part
memory_parts = word (codes "mem") ∷ []

-- a list of types, with `mem` and what stands behind it
listed_memory : (first : List Part) (each : List (List Part)) (more : List Part) → listed (first ∷ (each ++ memory_parts ∷ [])) ++ more ≡ first ++ (behind_commas each ++ (mark (codes ",") ∷ (word (codes "mem") ∷ more)))
listed_memory first each more =
    append_assoc first (behind_commas (each ++ memory_parts ∷ [])) more
    ∙ ap (λ ps. first ++ (ps ++ more)) (commas_append each (memory_parts ∷ []))
    ∙ ap (λ ps. first ++ ps) (append_assoc (behind_commas each) (behind_commas (memory_parts ∷ [])) more)

pub record LaysType (text : List ℕ) (ty : Ty) (r : List ℕ) : Type 0 where
  pub parts : List Part
  pub is : IsType parts ty
  pub lays : (more : List Part) → Lays more r → Lays (mark (codes "<") ∷ (parts ++ (mark (codes ">") ∷ more))) text

abbrev behind_memory : List Part → List Part
behind_memory more = mark (codes ",") ∷ (word (codes "mem") ∷ (mark (codes ">") ∷ more))

-- `, mem>`
memory_lay : (text r : List ℕ) → memory_at text ≡ Some r → (more : List Part) → Lays more r → Lays (behind_memory more) text
unfolding memory_at
memory_lay text r h more l =
    let a = bind_some (mark_at (codes ",") text) _ r h in
    let n = bind_some (plain_at a.0) _ r a.2 in
    let q = if_true (bytes_eq n.0.0 (codes "mem")) (mark_at (codes ">") n.0.1) r n.2 in
    let f = plain_lays a.0 n.0.0 n.0.1 n.1 in
    let closed : Lays (mark (codes ">") ∷ more) n.0.1 = mark_lays (codes ">") more n.0.1 r q.1 l in
    let named : Lays (word (codes "mem") ∷ (mark (codes ">") ∷ more)) a.0 = subst (λ w. Lays (word w ∷ (mark (codes ">") ∷ more)) a.0) (same_bytes n.0.0 (codes "mem") q.0) (f.lays (mark (codes ">") ∷ more) tt closed) in
    mark_lays (codes ",") (word (codes "mem") ∷ (mark (codes ">") ∷ more)) text a.0 a.1 named

mem_plain : IsNameOf is_plain_byte (codes "mem")
unfolding is_plain_byte is_name_byte
mem_plain = ascii_named is_plain_byte (codes "mem") (omega arith) refl refl

angle_halts : is_plain_byte 62 ≡ false
unfolding is_plain_byte is_name_byte
angle_halts = refl

abbrev memory_named : Option (List ℕ × List ℕ) → Option (List ℕ)
memory_named o = o >>= λ n. cond (bytes_eq n.0 (codes "mem")) (mark_at (codes ">") n.1) None

memory_read : (more : List Part) (text : List ℕ) → Lays (behind_memory more) text → (r : List ℕ) × (memory_at text ≡ Some r) × Lays more r
unfolding memory_at
memory_read more text l =
    let a = mark_reads 44 [] (word (codes "mem") ∷ (mark (codes ">") ∷ more)) text refl l in
    let n = plain_reads (codes "mem") (mark (codes ">") ∷ more) a.0 mem_plain angle_halts a.2 in
    let b = mark_reads 62 [] more n.rest refl n.laid in (
      b.0,
      ap (λ o. o >>= λ a. plain_at a >>= λ n. cond (bytes_eq n.0 (codes "mem")) (mark_at (codes ">") n.1) None) a.1
          ∙ ap (λ o. o >>= λ n. cond (bytes_eq n.0 (codes "mem")) (mark_at (codes ">") n.1) None) n.is
          ∙ b.1,
      b.2,
    )

-- no type of a word is `mem`
no_type : (more : List Part) (text : List ℕ) → Lays (behind_memory more) text → next_at place_type_at text ≡ None
unfolding place_type_at
no_type more text l =
    let a = mark_reads 44 [] (word (codes "mem") ∷ (mark (codes ">") ∷ more)) text refl l in
    let n = plain_reads (codes "mem") (mark (codes ">") ∷ more) a.0 mem_plain angle_halts a.2 in
    ap (λ o. o >>= λ a. plain_at a >>= named_with word_type) a.1
    ∙ ap (λ o. o >>= named_with word_type) n.is
    ∙ ap (λ o. option_map (λ t. (t, n.rest)) o) memory_is_no_word

next_types : (text : List ℕ) → every next_type_at text ≡ every (next_at place_type_at) text
unfolding next_type_at
next_types text = refl

types_shrink : Shrinks (next_at place_type_at)
unfolding next_type_at
types_shrink = next_type_shrinks

place_of_one : (name : List ℕ) (ty : Ty) → IsOneType name ty → is_word_type ty ≡ true → IsPlaceType name ty
place_of_one name ty h e = (h.0, ⊎_elim (λ a. inl (a.0, word_is ty e)) (λ a. inr a) h.1)

one_of_place_type : (name : List ℕ) (ty : Ty) → IsPlaceType name ty → IsOneType name ty
one_of_place_type name ty h = (h.0, one_of_place name ty h.1)

place_word : (name : List ℕ) (ty : Ty) → IsPlaceType name ty → is_word_type ty ≡ true
place_word name ty h = ⊎_elim (λ a. is_word ty a.1) (λ a. ap is_word_type a.1) h.1

type_lays : (text : List ℕ) (ty : Ty) (r : List ℕ) → value_type_at text ≡ Some (ty, r) → LaysType text ty r
unfolding value_type_at list_at
type_lays text ty r h =
    let a = bind_some (mark_at (codes "<") text) _ (ty, r) h in
    let t = bind_some (one_type_at a.0) _ (ty, r) a.2 in
    let i = one_item.lays a.0 t.0.0 t.0.1 t.1 in
    ⊎_elim (λ e.
    let m = map_some _ (mark_at (codes ">") t.0.1) (ty, r) e in
    record {
      parts = i.parts;
      is = inl (subst (IsOne i.parts) (ap (λ x. x.0) m.2) i.item);
      lays = λ more l. mark_lays (codes "<") (i.parts ++ (mark (codes ">") ∷ more)) text a.0 a.1
          (i.lays (mark (codes ">") ∷ more) tt (mark_lays (codes ">") more t.0.1 m.0 m.1 (subst (Lays more) (sym (ap (λ x. x.1) m.2)) l)));
    })
    (λ e.
    let q = if_true (is_word_type t.0.0) (option_map (λ r. (Tuple, r)) (memory_at (every next_type_at t.0.1).1)) (ty, r) e.1 in
    let m = map_some _ (memory_at (every next_type_at t.0.1).1) (ty, r) q.1 in
    let c = commas_lay place_type_at IsPlace place_item t.0.1 in
    let found : memory_at (every (next_at place_type_at) t.0.1).1 ≡ Some m.0 = ap (λ x. memory_at x.1) (sym (next_types t.0.1)) ∙ m.1 in
    record {
      parts = listed (i.parts ∷ (c.each ++ memory_parts ∷ []));
      is = inr (i.parts ∷ c.each, t.0.0 ∷ (every (next_at place_type_at) t.0.1).0, ((i.item.0, i.item.1, place_of_one i.item.0 t.0.0 i.item.2 q.0), c.items), omega arith, refl, sym (ap (λ x. x.0) m.2));
      lays = λ more l. mark_lays (codes "<") (listed (i.parts ∷ (c.each ++ memory_parts ∷ [])) ++ (mark (codes ">") ∷ more)) text a.0 a.1
          (subst (λ ps. Lays ps a.0) (sym (listed_memory i.parts c.each (mark (codes ">") ∷ more)))
          (i.lays (behind_commas c.each ++ behind_memory more) (commas_word c.each (behind_memory more) tt)
          (c.lays (behind_memory more) tt (memory_lay (every (next_at place_type_at) t.0.1).1 m.0 found more (subst (Lays more) (sym (ap (λ x. x.1) m.2)) l)))));
    })
    (either (option_map (λ r. (t.0.0, r)) (mark_at (codes ">") t.0.1)) (list_at t.0.0 t.0.1) (ty, r) t.2)

-- the steps of a type, each with what it gives
abbrev with_end : Ty → List ℕ → Option (List ℕ) → Option (Ty × List ℕ)
with_end ty b o = or_else (option_map (λ r. (ty, r)) o) (list_at ty b)

abbrev ended_type : Option (Ty × List ℕ) → Option (Ty × List ℕ)
ended_type o = o >>= λ t. with_end t.0 t.1 (mark_at (codes ">") t.1)

abbrev typed_at : Option (List ℕ) → Option (Ty × List ℕ)
typed_at o = o >>= λ a. ended_type (one_type_at a)

no_angle : (each : List (List Part)) (more : List Part) (text : List ℕ) → Lays (behind_commas each ++ behind_memory more) text → mark_at (codes ">") text ≡ None
no_angle [] more text l = other_mark 62 [] 44 [] (word (codes "mem") ∷ (mark (codes ">") ∷ more)) text refl refl l
no_angle (e ∷ each) more text l = other_mark 62 [] 44 [] ((e ++ behind_commas each) ++ behind_memory more) text refl refl l

single_read : (text a : List ℕ) (ty : Ty) (b r : List ℕ) → mark_at (codes "<") text ≡ Some a → one_type_at a ≡ Some (ty, b) → mark_at (codes ">") b ≡ Some r → value_type_at text ≡ Some (ty, r)
unfolding value_type_at
single_read text a ty b r h g e =
    ap typed_at h ∙ ap ended_type g ∙ ap (with_end ty b) e

many_read : (text a : List ℕ) (ty : Ty) (b r : List ℕ) → mark_at (codes "<") text ≡ Some a → one_type_at a ≡ Some (ty, b) → mark_at (codes ">") b ≡ None → list_at ty b ≡ Some (Tuple, r) → value_type_at text ≡ Some (Tuple, r)
unfolding value_type_at
many_read text a ty b r h g e l =
    ap typed_at h ∙ ap ended_type g ∙ ap (with_end ty b) e
    ∙ l

list_read : (ty : Ty) (ts : List Ty) (b c r : List ℕ) → is_word_type ty ≡ true → every (next_at place_type_at) b ≡ (ts, c) → memory_at c ≡ Some r → list_at ty b ≡ Some (Tuple, r)
unfolding list_at
list_read ty ts b c r w e h =
    ap (λ t. cond t (option_map (λ r. (Tuple, r)) (memory_at (every next_type_at b).1)) None) w
    ∙ ap (λ y. option_map (λ r. (Tuple, r)) (memory_at y.1)) (next_types b ∙ e)
    ∙ ap (option_map (λ r. (Tuple, r))) h

tuple_reads : (each : List (List Part)) (types : List Ty) (more : List Part) (text a : List ℕ) → AllZip IsPlace each types → 0 < length types → mark_at (codes "<") text ≡ Some a
    → Lays (listed (each ++ memory_parts ∷ []) ++ (mark (codes ">") ∷ more)) a → ReadsItem (value_type_at text) Tuple more
tuple_reads [] [] more text a z h m l = absurd (omega arith)
tuple_reads [] (t ∷ ts) more text a z h m l = absurd z
tuple_reads (e ∷ es) [] more text a z h m l = absurd z
tuple_reads (e ∷ es) (t ∷ ts) more text a z h m l =
    let k = subst (λ ps. Lays ps a) (listed_memory e es (mark (codes ">") ∷ more)) l in
    let x = one_item.reads e t (behind_commas es ++ behind_memory more) a (z.0.0, z.0.1, one_of_place_type z.0.0 t z.0.2) (commas_halt is_plain_byte es (behind_memory more) comma_halts comma_halts) k in
    let c = commas_read place_type_at IsPlace place_item types_shrink es ts (behind_memory more) x.rest z.1 comma_halts (λ u v. no_type more u v) x.laid in
    let all : every (next_at place_type_at) x.rest ≡ (ts, c.rest) = some_is (every (next_at place_type_at) x.rest) (ts, c.rest) c.is in
    let f = memory_read more c.rest c.laid in
    record {
      rest = f.0;
      is = many_read text a t x.rest f.0 m x.is (no_angle es more x.rest x.laid) (list_read t ts x.rest c.rest f.0 (place_word z.0.0 t z.0.2) all f.1);
      laid = f.2;
    }

type_reads : (parts : List Part) (ty : Ty) (more : List Part) (text : List ℕ) → IsType parts ty → Lays (mark (codes "<") ∷ (parts ++ (mark (codes ">") ∷ more))) text → ReadsItem (value_type_at text) ty more
type_reads parts ty more text h l =
    let m = mark_reads 60 [] (parts ++ (mark (codes ">") ∷ more)) text refl l in
    ⊎_elim (λ e.
    let t = one_item.reads parts ty (mark (codes ">") ∷ more) m.0 e angle_halts m.2 in
    let g = mark_reads 62 [] more t.rest refl t.laid in
    record { rest = g.0; is = single_read text m.0 ty t.rest g.0 m.1 t.is g.1; laid = g.2 })
    (λ e.
    let t = tuple_reads e.0 e.1 more text m.0 e.2 e.3 m.1 (subst (λ ps. Lays (ps ++ (mark (codes ">") ∷ more)) m.0) e.4 m.2) in
    record { rest = t.rest; is = t.is ∙ ap (λ y. Some (y, t.rest)) (sym e.5); laid = t.laid }) h

-- What stands beside the arguments.

four_fit : (a b c d : Bool) → cond a (2 ^ 8) (cond b (2 ^ 16) (cond c (2 ^ 32) (cond d (2 ^ 64) 0))) ≤ 2 ^ 64
four_fit true b c d = omega arith
four_fit false true c d = omega arith
four_fit false false true d = omega arith
four_fit false false false true = omega arith
four_fit false false false false = omega arith

const_fits : (bits : ℕ) → constants_of family.Const bits ≤ 2 ^ 64
unfolding constants_of
const_fits bits = four_fit (bits == 8) (bits == 16) (bits == 32) (bits == 64)

family_fits : (f : Family) (bits : ℕ) → constants_of f bits ≤ 2 ^ 64
unfolding constants_of
family_fits family.Const bits = const_fits bits
family_fits family.ConstBool bits = omega arith
family_fits family.ConstNil bits = omega arith
family_fits family.Add bits = omega arith
family_fits family.Sub bits = omega arith
family_fits family.Mul bits = omega arith
family_fits family.And bits = omega arith
family_fits family.Or bits = omega arith
family_fits family.Xor bits = omega arith
family_fits family.Neg bits = omega arith
family_fits family.Com bits = omega arith
family_fits family.Div bits = omega arith
family_fits family.Divu bits = omega arith
family_fits family.Mod bits = omega arith
family_fits family.Modu bits = omega arith
family_fits family.Hmul bits = omega arith
family_fits family.Hmulu bits = omega arith
family_fits family.Lsh bits = omega arith
family_fits family.Rsh bits = omega arith
family_fits family.RshU bits = omega arith
family_fits family.Eq bits = omega arith
family_fits family.Neq bits = omega arith
family_fits family.Less bits = omega arith
family_fits family.LessU bits = omega arith
family_fits family.Leq bits = omega arith
family_fits family.LeqU bits = omega arith
family_fits family.EqB bits = omega arith
family_fits family.NeqB bits = omega arith
family_fits family.AndB bits = omega arith
family_fits family.OrB bits = omega arith
family_fits family.Not bits = omega arith
family_fits family.EqPtr bits = omega arith
family_fits family.NeqPtr bits = omega arith
family_fits family.IsNonNil bits = omega arith
family_fits family.IsInBounds bits = omega arith
family_fits family.IsSliceInBounds bits = omega arith
family_fits family.SignExt bits = omega arith
family_fits family.ZeroExt bits = omega arith
family_fits family.Trunc bits = omega arith
family_fits family.CvtBoolToUint8 bits = omega arith
family_fits family.Signmask bits = omega arith
family_fits family.Zeromask bits = omega arith
family_fits family.Ctz32 bits = omega arith
family_fits family.BitLen32 bits = omega arith
family_fits family.RotateLeft bits = omega arith
family_fits family.CondSelect bits = omega arith
family_fits family.AddPtr bits = omega arith
family_fits family.SubPtr bits = omega arith
family_fits family.OffPtr bits = omega arith
family_fits family.Int64Make bits = omega arith
family_fits family.Int64Hi bits = omega arith
family_fits family.Int64Lo bits = omega arith
family_fits family.AddHi32 bits = omega arith
family_fits family.SubHi32 bits = omega arith
family_fits family.Phi bits = omega arith
family_fits family.Copy bits = omega arith
family_fits family.Arg bits = omega arith
family_fits family.InitMem bits = omega arith
family_fits family.Sp bits = omega arith
family_fits family.Sb bits = omega arith
family_fits family.Addr bits = omega arith
family_fits family.Load bits = omega arith
family_fits family.Store bits = omega arith
family_fits family.Zero bits = omega arith
family_fits family.Move bits = omega arith
family_fits family.NilCheck bits = omega arith
family_fits family.PanicBounds bits = omega arith
family_fits family.StaticLECall bits = omega arith
family_fits family.SelectN bits = omega arith
family_fits family.MakeResult bits = omega arith
family_fits family.ArgWord bits = omega arith
family_fits family.ArgReg bits = omega arith
family_fits family.ResWord bits = omega arith
family_fits family.ResReg bits = omega arith
family_fits family.OutWord bits = omega arith
family_fits family.RetWord bits = omega arith
family_fits family.RetRegs bits = omega arith
family_fits family.Call bits = omega arith
family_fits family.CallRegs bits = omega arith
family_fits family.Trap bits = omega arith
family_fits (family.Arm op) bits = omega arith
family_fits (family.Rv op) bits = omega arith

constants_fit : (o : Op) → constants_of o.family o.a ≤ 2 ^ 64
constants_fit o = family_fits o.family o.a

pub record LaysBoth (o : Op) (text : List ℕ) (m : MentionTree) (z : ℤ) (r : List ℕ) : Type 0 where
  pub aux : List Part
  pub int : List Part
  pub beside : List Part
  pub mentions : IsBraces (braces_of o.family) aux m
  pub squared : IsSquare (square_of o.family) (constants_of o.family o.a) int z
  pub ordered : (beside ≡ aux ++ int) ⊎ (beside ≡ int ++ aux)
  pub lays : (more : List Part) → Lays more r → Lays (beside ++ more) text

square_before : (o : Op) (text : List ℕ) (m : MentionTree) (z : ℤ) (r : List ℕ) → square_first o text ≡ Some ((m, z), r) → LaysBoth o text m z r
unfolding square_first
square_before o text m z r h =
    let i = bind_some (square_part o text) _ ((m, z), r) h in
    let b = bind_some (braces_part o i.0.1) _ ((m, z), r) i.2 in
    let same = some_is ((b.0.0, i.0.0), b.0.1) ((m, z), r) b.2 in
    let s = square_lays (square_of o.family) (constants_of o.family o.a) text i.0.0 i.0.1 (constants_fit o) i.1 in
    let t = braces_lays (braces_of o.family) i.0.1 b.0.0 b.0.1 b.1 in
    record {
      aux = t.parts;
      int = s.parts;
      beside = s.parts ++ t.parts;
      mentions = subst (IsBraces (braces_of o.family) t.parts) (ap (λ x. x.0.0) same) t.item;
      squared = subst (IsSquare (square_of o.family) (constants_of o.family o.a) s.parts) (ap (λ x. x.0.1) same) s.item;
      ordered = inr refl;
      lays = λ more l. subst (λ ps. Lays ps text) (sym (append_assoc s.parts t.parts more)) (s.lays (t.parts ++ more) (t.lays more (subst (Lays more) (sym (ap (λ x. x.1) same)) l)));
    }

braces_before : (o : Op) (text : List ℕ) (m : MentionTree) (z : ℤ) (r : List ℕ) → braces_first o text ≡ Some ((m, z), r) → LaysBoth o text m z r
unfolding braces_first
braces_before o text m z r h =
    let b = bind_some (braces_part o text) _ ((m, z), r) h in
    let i = bind_some (square_part o b.0.1) _ ((m, z), r) b.2 in
    let same = some_is ((b.0.0, i.0.0), i.0.1) ((m, z), r) i.2 in
    let t = braces_lays (braces_of o.family) text b.0.0 b.0.1 b.1 in
    let s = square_lays (square_of o.family) (constants_of o.family o.a) b.0.1 i.0.0 i.0.1 (constants_fit o) i.1 in
    record {
      aux = t.parts;
      int = s.parts;
      beside = t.parts ++ s.parts;
      mentions = subst (IsBraces (braces_of o.family) t.parts) (ap (λ x. x.0.0) same) t.item;
      squared = subst (IsSquare (square_of o.family) (constants_of o.family o.a) s.parts) (ap (λ x. x.0.1) same) s.item;
      ordered = inl refl;
      lays = λ more l. subst (λ ps. Lays ps text) (sym (append_assoc t.parts s.parts more)) (t.lays (s.parts ++ more) (s.lays more (subst (Lays more) (sym (ap (λ x. x.1) same)) l)));
    }

beside_step : (o : Op) (text : List ℕ) (m : MentionTree) (z : ℤ) (r : List ℕ) (b : Bool) → cond b (square_first o text) (braces_first o text) ≡ Some ((m, z), r) → LaysBoth o text m z r
beside_step o text m z r true h = square_before o text m z r h
beside_step o text m z r false h = braces_before o text m z r h

beside_lays : (o : Op) (text : List ℕ) (m : MentionTree) (z : ℤ) (r : List ℕ) → beside_at o text ≡ Some ((m, z), r) → LaysBoth o text m z r
unfolding beside_at
beside_lays o text m z r h = beside_step o text m z r (is_some (mark_at (codes "[") text)) h

-- brackets and braces hold nothing, or begin with their mark
abbrev Opens : ℕ → List Part → Type 0
Opens c parts = (parts ≡ []) ⊎ ((more : List Part) × (parts ≡ mark (c ∷ []) ∷ more))

square_opens : (k : Square) (all : ℕ) (parts : List Part) (z : ℤ) → IsSquare k all parts z → Opens 91 parts
square_opens square.Nothing all parts z h = inl h.0
square_opens square.Number all parts z h = inr (h.0 ++ mark (codes "]") ∷ [], h.1)
square_opens square.Truth all parts z h = inr (h.0 ++ mark (codes "]") ∷ [], h.1)
square_opens square.Ignored all parts z h = ⊎_elim (λ e. inl e) (λ e. inr (e.0 ++ mark (codes "]") ∷ [], e.2)) h.1
square_opens square.IgnoredTruth all parts z h = ⊎_elim (λ e. inl e) (λ e. inr (e.0 ++ mark (codes "]") ∷ [], e.2)) h.1

braces_open : (k : Braces) (parts : List Part) (m : MentionTree) → IsBraces k parts m → Opens 123 parts
braces_open braces.Nothing parts m h = inl h.0
braces_open braces.Type parts m h = inr (word h.0 ∷ (mark (codes "}") ∷ []), h.2)
braces_open braces.Name parts m h = inr (word h.0 ∷ (mark (codes "}") ∷ []), h.1)
braces_open braces.Callee parts m h = ⊎_elim (λ e. inr (word h.0 ∷ (mark (codes "}") ∷ []), e)) (λ e. inr ((word (codes "AuxCall") ∷ (mark (codes "{") ∷ (word h.0 ∷ (mark (codes "}") ∷ [])))) ++ mark (codes "}") ∷ [], e)) h.3
braces_open braces.Ignored parts m h = ⊎_elim (λ e. inl e) (λ e. inr (word e.0 ∷ (mark (codes "}") ∷ []), e.1)) h.1

-- where parts begin with another mark or are none, what is behind decides
lacks_open : (d c : ℕ) (parts more : List Part) → (d == c) ≡ false → is_blank c ≡ false → Opens c parts → Lacks (d ∷ []) more → Lacks (d ∷ []) (parts ++ more)
lacks_open d c parts more e s o k = λ text l.
    ⊎_elim (λ n. k text (subst (λ ps. Lays (ps ++ more) text) n l))
    (λ n. other_mark d [] c [] (n.0 ++ more) text e s (subst (λ ps. Lays (ps ++ more) text) n.1 l)) o

abbrev with_braces : ℤ → Option (MentionTree × List ℕ) → Option ((MentionTree × ℤ) × List ℕ)
with_braces z x = x >>= λ m. Some ((m.0, z), m.1)

abbrev then_braces : Op → Option (ℤ × List ℕ) → Option ((MentionTree × ℤ) × List ℕ)
then_braces o x = x >>= λ i. with_braces i.0 (braces_part o i.1)

abbrev with_square : MentionTree → Option (ℤ × List ℕ) → Option ((MentionTree × ℤ) × List ℕ)
with_square m x = x >>= λ i. Some ((m, i.0), i.1)

abbrev then_square : Op → Option (MentionTree × List ℕ) → Option ((MentionTree × ℤ) × List ℕ)
then_square o x = x >>= λ m. with_square m.0 (square_part o m.1)

square_then : (o : Op) (aux int more : List Part) (m : MentionTree) (z : ℤ) (text : List ℕ) → IsBraces (braces_of o.family) aux m → IsSquare (square_of o.family) (constants_of o.family o.a) int z
    → Lacks (codes "[") more → Lacks (codes "{") more → Lays (int ++ (aux ++ more)) text → ReadsItem (square_first o text) (m, z) more
unfolding square_first
square_then o aux int more m z text b q ks kb l =
    let opens = braces_open (braces_of o.family) aux m b in
    let s = square_reads (square_of o.family) (constants_of o.family o.a) int z (aux ++ more) text (constants_fit o) q (lacks_open 91 123 aux more refl refl opens ks) l in
    let t = braces_reads (braces_of o.family) aux m more s.rest b kb s.laid in
    record {
      rest = t.rest;
      is = ap (then_braces o) s.is ∙ ap (with_braces z) t.is;
      laid = t.laid;
    }

braces_then : (o : Op) (aux int more : List Part) (m : MentionTree) (z : ℤ) (text : List ℕ) → IsBraces (braces_of o.family) aux m → IsSquare (square_of o.family) (constants_of o.family o.a) int z
    → Lacks (codes "[") more → Lacks (codes "{") more → Lays (aux ++ (int ++ more)) text → ReadsItem (braces_first o text) (m, z) more
unfolding braces_first
braces_then o aux int more m z text b q ks kb l =
    let opens = square_opens (square_of o.family) (constants_of o.family o.a) int z q in
    let t = braces_reads (braces_of o.family) aux m (int ++ more) text b (lacks_open 123 91 int more refl refl opens kb) l in
    let s = square_reads (square_of o.family) (constants_of o.family o.a) int z more t.rest (constants_fit o) q ks t.laid in
    record {
      rest = s.rest;
      is = ap (then_square o) t.is ∙ ap (with_square m) s.is;
      laid = s.laid;
    }

by_square : (o : Op) (text : List ℕ) (a : List ℕ) (x : MentionTree × ℤ) (more : List Part) → mark_at (codes "[") text ≡ Some a → ReadsItem (square_first o text) x more → ReadsItem (beside_at o text) x more
unfolding beside_at
by_square o text a x more h r = record { rest = r.rest; is = ap (λ y. cond (is_some y) (square_first o text) (braces_first o text)) h ∙ r.is; laid = r.laid }

by_braces : (o : Op) (text : List ℕ) (x : MentionTree × ℤ) (more : List Part) → mark_at (codes "[") text ≡ None → ReadsItem (braces_first o text) x more → ReadsItem (beside_at o text) x more
unfolding beside_at
by_braces o text x more h r = record { rest = r.rest; is = ap (λ y. cond (is_some y) (square_first o text) (braces_first o text)) h ∙ r.is; laid = r.laid }

-- a bracket in front
square_led : (o : Op) (aux int more : List Part) (m : MentionTree) (z : ℤ) (text : List ℕ) → IsBraces (braces_of o.family) aux m → IsSquare (square_of o.family) (constants_of o.family o.a) int z
    → Lacks (codes "[") more → Lacks (codes "{") more → Lays (int ++ (aux ++ more)) text → ReadsItem (beside_at o text) (m, z) more
square_led o aux int more m z text b q ks kb l =
    ⊎_elim (λ e.
    let none : mark_at (codes "[") text ≡ None = lacks_open 91 123 aux more refl refl (braces_open (braces_of o.family) aux m b) ks text (subst (λ ps. Lays (ps ++ (aux ++ more)) text) e l) in
    let again : Lays (aux ++ (int ++ more)) text = subst (λ ps. Lays (aux ++ (ps ++ more)) text) (sym e) (subst (λ ps. Lays (ps ++ (aux ++ more)) text) e l) in
    by_braces o text (m, z) more none (braces_then o aux int more m z text b q ks kb again))
    (λ e.
    let k = mark_reads 91 [] (e.0 ++ (aux ++ more)) text refl (subst (λ ps. Lays (ps ++ (aux ++ more)) text) e.1 l) in
    by_square o text k.0 (m, z) more k.1 (square_then o aux int more m z text b q ks kb l))
    (square_opens (square_of o.family) (constants_of o.family o.a) int z q)

-- a brace in front
braces_led : (o : Op) (aux int more : List Part) (m : MentionTree) (z : ℤ) (text : List ℕ) → IsBraces (braces_of o.family) aux m → IsSquare (square_of o.family) (constants_of o.family o.a) int z
    → Lacks (codes "[") more → Lacks (codes "{") more → Lays (aux ++ (int ++ more)) text → ReadsItem (beside_at o text) (m, z) more
braces_led o aux int more m z text b q ks kb l =
    ⊎_elim (λ e.
    let here : Lays (int ++ more) text = subst (λ ps. Lays (ps ++ (int ++ more)) text) e l in
    square_led o aux int more m z text b q ks kb (subst (λ ps. Lays (int ++ (ps ++ more)) text) (sym e) here))
    (λ e.
    by_braces o text (m, z) more (other_mark 91 [] 123 [] (e.0 ++ (int ++ more)) text refl refl (subst (λ ps. Lays (ps ++ (int ++ more)) text) e.1 l)) (braces_then o aux int more m z text b q ks kb l))
    (braces_open (braces_of o.family) aux m b)

beside_reads : (o : Op) (aux int beside more : List Part) (m : MentionTree) (z : ℤ) (text : List ℕ) → IsBraces (braces_of o.family) aux m → IsSquare (square_of o.family) (constants_of o.family o.a) int z → (beside ≡ aux ++ int) ⊎ (beside ≡ int ++ aux)
    → Lacks (codes "[") more → Lacks (codes "{") more → Lays (beside ++ more) text → ReadsItem (beside_at o text) (m, z) more
beside_reads o aux int beside more m z text b q order ks kb l =
    ⊎_elim (λ e. braces_led o aux int more m z text b q ks kb (subst (λ ps. Lays ps text) (append_assoc aux int more) (subst (λ ps. Lays (ps ++ more) text) e l)))
    (λ e. square_led o aux int more m z text b q ks kb (subst (λ ps. Lays ps text) (append_assoc int aux more) (subst (λ ps. Lays (ps ++ more) text) e l))) order

-- What is behind the head: arguments and groups.

abbrev behind_head : List Part → List Part → List Part
behind_head args groups = args ++ groups

-- they begin with no bracket and no brace
numbered_lacks : (d : ℕ) (part : Part) (n : ℕ) (more : List Part) (text : List ℕ) → (d == 118) ≡ false → IsNumbered (codes "v") part n → Lays (part ∷ more) text → mark_at (d ∷ []) text ≡ None
numbered_lacks d part n more text e h l = word_unmarked d 118 h.0 more text e refl (subst (λ p. Lays (p ∷ more) text) h.3 l)

groups_lack : (d : ℕ) (groups : List Part) (gs : List (List ℕ)) → (d == 40) ≡ false → AllZip IsGroup groups gs → Lacks (d ∷ []) groups
groups_lack d [] gs e h = λ text l. blank_unmarked d [] text l
groups_lack d (p ∷ ps) [] e h = absurd h
groups_lack d (p ∷ ps) (g ∷ gs) e h = λ text l. other_mark d [] 40 (g ++ codes ")") ps text e refl (subst (λ q. Lays (q ∷ ps) text) h.0.spelled l)

behind_lacks : (d : ℕ) (args groups : List Part) (ns : List ℕ) (gs : List (List ℕ)) → (d == 118) ≡ false → (d == 40) ≡ false → AreValues args ns → AllZip IsGroup groups gs → Lacks (d ∷ []) (args ++ groups)
behind_lacks d [] groups ns gs e f a g = groups_lack d groups gs f g
behind_lacks d (p ∷ ps) groups [] gs e f a g = absurd a
behind_lacks d (p ∷ ps) groups (n ∷ ns) gs e f a g = λ text l. numbered_lacks d p n (ps ++ groups) text e a.0 l

-- Ops.

no_empty_op : op_named [] ≡ None
unfolding op_named front back width_at family_of families_of
no_empty_op = refl

some_bytes : (w : List ℕ) (o : Op) → op_named w ≡ Some o → 0 < length w
some_bytes [] o h = absurd (let e = sym no_empty_op ∙ h in cc)
some_bytes (c ∷ w) o h = omega arith

-- The group behind the number.

pub record LaysUngrouped (text : List ℕ) : Type 0 where
  pub parts : List Part
  pub inside : List (List ℕ)
  pub are : AreGroups parts inside
  pub few : length inside ≤ 1
  pub lays : (more : List Part) → Lays more (ungrouped text) → Lays (parts ++ more) text

ungrouped_some : (text inside r : List ℕ) → group_at text ≡ Some (inside, r) → ungrouped text ≡ r
unfolding ungrouped
ungrouped_some text inside r h = ap (λ o. option_map_or (λ g. g.1) o text) h

ungrouped_none : (text : List ℕ) → group_at text ≡ None → ungrouped text ≡ text
unfolding ungrouped
ungrouped_none text h = ap (λ o. option_map_or (λ g. g.1) o text) h

ungrouped_step : (text : List ℕ) (o : Option (List ℕ × List ℕ)) → group_at text ≡ o → LaysUngrouped text
ungrouped_step text None h = record { parts = []; inside = []; are = tt; few = omega arith; lays = λ more l. subst (Lays more) (ungrouped_none text h) l }
ungrouped_step text (Some x) h =
    let g = group_lays text x.0 x.1 h in
    record { parts = group_of x.0 ∷ []; inside = x.0 ∷ []; are = (g.is, tt); few = omega arith; lays = λ more l. g.lays more (subst (Lays more) (ungrouped_some text x.0 x.1 h) l) }

ungrouped_lays : (text : List ℕ) → LaysUngrouped text
ungrouped_lays text = ungrouped_step text (group_at text) refl

no_group : (more : List Part) (text : List ℕ) → Lays (mark (codes "=") ∷ more) text → group_at text ≡ None
unfolding group_at
no_group more text l = ap (λ o. o >>= up_to 41) (other_mark 40 [] 61 [] more text refl refl l)

ungrouped_reads : (parts : List Part) (inside : List (List ℕ)) (more : List Part) (text : List ℕ) → AreGroups parts inside → length inside ≤ 1 → Lays (parts ++ (mark (codes "=") ∷ more)) text → Lays (mark (codes "=") ∷ more) (ungrouped text)
ungrouped_reads [] [] more text h f l = subst (Lays (mark (codes "=") ∷ more)) (sym (ungrouped_none text (no_group more text l))) l
ungrouped_reads [] (g ∷ gs) more text h f l = absurd h
ungrouped_reads (p ∷ ps) [] more text h f l = absurd h
ungrouped_reads (p ∷ []) (g ∷ []) more text h f l = let r = group_reads p g (mark (codes "=") ∷ more) text h.0 l in subst (Lays (mark (codes "=") ∷ more)) (sym (ungrouped_some text g r.0 r.1)) r.2
ungrouped_reads (p ∷ (q ∷ ps)) (g ∷ []) more text h f l = absurd h.1
ungrouped_reads (p ∷ ps) (g ∷ (k ∷ gs)) more text h f l = absurd (omega arith)

groups_free : (parts : List Part) (inside : List (List ℕ)) (more : List Part) → AreGroups parts inside → NoWord (parts ++ (mark (codes "=") ∷ more))
groups_free [] inside more h = tt
groups_free (p ∷ ps) [] more h = absurd h
groups_free (p ∷ ps) (g ∷ gs) more h = subst (λ q. NoWord (q ∷ (ps ++ (mark (codes "=") ∷ more)))) (sym h.0.spelled) tt

groups_stop : (parts : List Part) (inside : List (List ℕ)) (more : List Part) → AreGroups parts inside → Halts is_ascii_digit (parts ++ (mark (codes "=") ∷ more))
groups_stop [] inside more h = refl
groups_stop (p ∷ ps) [] more h = absurd h
groups_stop (p ∷ ps) (g ∷ gs) more h = subst (λ q. Halts is_ascii_digit (q ∷ (ps ++ (mark (codes "=") ∷ more)))) (sym h.0.spelled) refl

-- The line.

angle_word : is_word_byte 60 ≡ false
unfolding is_word_byte
angle_word = refl

pub value_lays : (line : List ℕ) (v : ValueTree) → value_at line ≡ Some v → Spells IsValueLine line v
unfolding value_at head_at left_at op_at
value_lays line v h =
    let x = bind_some (head_at line) _ v h in
    let g = bind_some (groups_at (numbers_at (codes "v") x.0.1).1) _ v x.2 in
    let n = bind_some (left_at line) _ x.0 x.1 in
    let o = bind_some (op_at n.0.1) _ x.0 n.2 in
    let t = bind_some (value_type_at o.0.1) _ x.0 o.2 in
    let m = bind_some (beside_at o.0.0 t.0.1) _ x.0 t.2 in
    let i = bind_some (number_at (codes "v") (unblanked line)) _ n.0 n.1 in
    let b = bind_some (mark_at (codes "=") (ungrouped i.0.1)) _ n.0 i.2 in
    let p = bind_some (op_named (word_at n.0.1).0) _ o.0 o.1 in
    let q = if_true (is_written p.0.family) (Some (p.0, (word_at n.0.1).1)) o.0 p.2 in
    let numbered = number_is (codes "v") (unblanked line) i.0.0 i.0.1 i.1 in
    let opened = ungrouped_lays i.0.1 in
    let w = word_lays n.0.1 in
    let typed = type_lays o.0.1 t.0.0 t.0.1 t.1 in
    let both = beside_lays o.0.0 t.0.1 m.0.0.0 m.0.0.1 m.0.1 m.1 in
    let groups = groups_lays (numbers_at (codes "v") x.0.1).1 g.0 g.1 in
    let args = numbers_lays (codes "v") x.0.1 groups.0 (groups_word groups.0 g.0 groups.1) groups.2 in
    let head = some_is _ x.0 m.2 in
    let left = some_is _ n.0 b.2 in
    let op = some_is _ o.0 q.1 in
    let behind = args.0 ++ groups.0 in
    let beside : Lays (both.beside ++ behind) t.0.1 = both.lays behind (subst (Lays behind) (sym (ap (λ y. y.1) head)) args.2) in
    let inner = typed.parts ++ (mark (codes ">") ∷ (both.beside ++ behind)) in
    let types : Lays (mark (codes "<") ∷ inner) o.0.1 = typed.lays (both.beside ++ behind) beside in
    let named : Lays (word (word_at n.0.1).0 ∷ (mark (codes "<") ∷ inner)) n.0.1 = w.lays (mark (codes "<") ∷ inner) tt (subst (Lays (mark (codes "<") ∷ inner)) (sym (ap (λ y. y.1) op)) types) in
    let rest = word (word_at n.0.1).0 ∷ (mark (codes "<") ∷ inner) in
    let equals : Lays (mark (codes "=") ∷ rest) (ungrouped i.0.1) = mark_lays (codes "=") rest (ungrouped i.0.1) b.0 b.1 (subst (Lays rest) (sym (ap (λ y. y.1) left)) named) in
    let grouped : Lays (opened.parts ++ (mark (codes "=") ∷ rest)) i.0.1 = opened.lays (mark (codes "=") ∷ rest) equals in
    let laid = first_lays (codes "v") line i.0.0 i.0.1 (opened.parts ++ (mark (codes "=") ∷ rest)) numbered (free (word numbered.bytes) (opened.parts ++ (mark (codes "=") ∷ rest)) i.0.1 (groups_free opened.parts opened.inside rest opened.are)) grouped in
    let parts = word numbered.bytes ∷ (opened.parts ++ (mark (codes "=") ∷ rest)) in
    let written : (op_named (word_at n.0.1).0 ≡ Some o.0.0) × (is_written o.0.0.family ≡ true) = (p.1 ∙ ap (λ y. Some y.0) op, subst (λ y. is_written y.family ≡ true) (ap (λ y. y.0) op) q.0) in
    let made : IsValueLine parts (with_args (record { id = n.0.0; op = o.0.0; ty = t.0.0; args = []; int = m.0.0.1; mention = m.0.0.0 }) (numbers_at (codes "v") x.0.1).0) = record {
      id = word numbered.bytes;
      behind_id = opened.parts;
      name = (word_at n.0.1).0;
      types = typed.parts;
      aux = both.aux;
      int = both.int;
      beside = both.beside;
      args = args.0;
      groups = groups.0;
      inside = opened.inside;
      dropped = g.0;
      spelled = refl;
      numbered = subst (IsNumbered (codes "v") (word numbered.bytes)) (ap (λ y. y.0) left) numbered.is;
      grouped = (opened.are, opened.few);
      worded = w.bytes;
      named = written;
      typed = typed.is;
      mentions = both.mentions;
      squared = both.squared;
      ordered = both.ordered;
      takes = args.1;
      ended = groups.1;
    } in
    (parts, laid, subst (IsValueLine parts) (ap (λ y. with_args y (numbers_at (codes "v") x.0.1).0) (ap (λ y. y.0) head) ∙ some_is _ v g.2) made)

same_value : (v : ValueTree) → with_args (record { id = v.id; op = v.op; ty = v.ty; args = []; int = v.int; mention = v.mention }) v.args ≡ v
same_value v = refl

abbrev with_equals : ℕ → Option (List ℕ) → Option (ℕ × List ℕ)
with_equals n o = o >>= λ b. Some (n, b)

abbrev equalled : Option (ℕ × List ℕ) → Option (ℕ × List ℕ)
equalled o = o >>= λ n. with_equals n.0 (mark_at (codes "=") (ungrouped n.1))

left_read : (line : List ℕ) (n : ℕ) (a b : List ℕ) → number_at (codes "v") (unblanked line) ≡ Some (n, a) → mark_at (codes "=") (ungrouped a) ≡ Some b → left_at line ≡ Some (n, b)
unfolding left_at
left_read line n a b h g = ap equalled h ∙ ap (with_equals n) g

abbrev written_op : List ℕ → Option Op → Option (Op × List ℕ)
written_op r x = x >>= λ o. cond (is_written o.family) (Some (o, r)) None

op_read : (text name r : List ℕ) (o : Op) → word_at text ≡ (name, r) → op_named name ≡ Some o → is_written o.family ≡ true → op_at text ≡ Some (o, r)
unfolding op_at
op_read text name r o h g w =
    ap (λ x. written_op x.1 (op_named x.0)) h ∙ ap (written_op r) g ∙ ap (λ b. cond b (Some (o, r)) None) w

abbrev value_and : ℕ → Op → Ty → (MentionTree × ℤ) × List ℕ → ValueTree × List ℕ
value_and n o t m = (record { id = n; op = o; ty = t; args = []; int = m.0.1; mention = m.0.0 }, m.1)

abbrev with_beside : ℕ → Op → Ty → Option ((MentionTree × ℤ) × List ℕ) → Option (ValueTree × List ℕ)
with_beside n o t x = x >>= λ m. Some (value_and n o t m)

abbrev with_type : ℕ → Op → Option (Ty × List ℕ) → Option (ValueTree × List ℕ)
with_type n o x = x >>= λ t. with_beside n o t.0 (beside_at o t.1)

abbrev with_op : ℕ → Option (Op × List ℕ) → Option (ValueTree × List ℕ)
with_op n x = x >>= λ o. with_type n o.0 (value_type_at o.1)

abbrev headed : Option (ℕ × List ℕ) → Option (ValueTree × List ℕ)
headed x = x >>= λ n. with_op n.0 (op_at n.1)

head_read : (line : List ℕ) (v : ValueTree) (a b c d : List ℕ) → left_at line ≡ Some (v.id, a) → op_at a ≡ Some (v.op, b) → value_type_at b ≡ Some (v.ty, c) → beside_at v.op c ≡ Some ((v.mention, v.int), d) → head_at line ≡ Some (with_args v [], d)
unfolding head_at
head_read line v a b c d h o t m =
    ap headed h ∙ ap (with_op v.id) o ∙ ap (with_type v.id v.op) t ∙ ap (with_beside v.id v.op v.ty) m

abbrev with_groups : ValueTree → List ℕ → Option (List (List ℕ)) → Option ValueTree
with_groups v ns x = x >>= λ g. Some (with_args v ns)

abbrev argued : Option (ValueTree × List ℕ) → Option ValueTree
argued x = x >>= λ v. with_groups v.0 (numbers_at (codes "v") v.1).0 (groups_at (numbers_at (codes "v") v.1).1)

pub value_reads : (line : List ℕ) (v : ValueTree) → Spells IsValueLine line v → value_at line ≡ Some v
unfolding value_at
value_reads line v (parts, laid, s) =
    let behind = s.args ++ s.groups in
    let inner = s.types ++ (mark (codes ">") ∷ (s.beside ++ behind)) in
    let rest = word s.name ∷ (mark (codes "<") ∷ inner) in
    let k = subst (λ ps. Lays ps line) s.spelled laid in
    let i = first_reads 118 s.id v.id (s.behind_id ++ (mark (codes "=") ∷ rest)) line refl s.numbered (groups_stop s.behind_id s.inside rest s.grouped.0) k in
    let e = mark_reads 61 [] rest (ungrouped i.rest) refl (ungrouped_reads s.behind_id s.inside rest i.rest s.grouped.0 s.grouped.1 i.laid) in
    let w = word_reads s.name (mark (codes "<") ∷ inner) e.0 (some_bytes s.name v.op s.named.0) s.worded angle_word e.2 in
    let t = type_reads s.types v.ty (s.beside ++ behind) w.rest s.typed w.laid in
    let b = beside_reads v.op s.aux s.int s.beside behind v.mention v.int t.rest s.mentions s.squared s.ordered
    (behind_lacks 91 s.args s.groups v.args s.dropped refl refl s.takes s.ended) (behind_lacks 123 s.args s.groups v.args s.dropped refl refl s.takes s.ended) t.laid in
    let n = numbers_reads 118 s.args v.args s.groups b.rest refl s.takes (groups_end 118 s.groups s.dropped refl s.ended) b.laid in
    let left = left_read line v.id i.rest e.0 i.is e.1 in
    let op = op_read e.0 s.name w.rest v.op w.is s.named.0 s.named.1 in
    let head = head_read line v e.0 w.rest t.rest b.rest left op t.is b.is in
    ap argued head
    ∙ ap (λ x. with_groups v x.0 (groups_at x.1)) n.1
    ∙ ap (with_groups v v.args) (groups_reads s.groups s.dropped n.0 s.ended n.2)
