-- Machines whose code has handles only where its values have theirs.
use Rattle.std.proofs.Common.{◌≡◌, ◌∙◌, refl, sym, ap, ℕ, ◌+◌, ◌==◌, Bool, true, false, if◌then◌else◌, List, [], ◌∷◌, ◌++◌, length, map, Option, Some, None}
use Rattle.std.specs.List.{flat_map, slice_get}
use Rattle.std.specs.Option.{option_map, unwrap_or}
use Rattle.std.proofs.lemmas.List.{map-append, length-map}
use Rattle.bk_func.specs.declared.parts.Kind.{Kind}
use Rattle.bk_func.specs.declared.parts.Kind.TheVariants.{Plain, If, First, Ret, Exit}
use Rattle.bk_func.specs.Records.{StepRecord, load, store, do_value, move, PlacedBlockRecord}
use Rattle.bk_piece.specs.declared.Handle.{Handle}
use Rattle.bk_emit.specs.declared.blocks.Frame.{Frame}
use Rattle.bk_emit.specs.declared.blocks.Spot.{Spot}
use Rattle.bk_emit.specs.declared.blocks.Spot.TheVariants.{Register, Word}
use Rattle.bk_emit.specs.declared.lines.Line.TheVariants as line
use Rattle.bk_emit.specs.declared.table.Regs.{Regs}
use Rattle.bk_emit.specs.Blocks.{slot_offset, load_slot, store_slot, spot_of, move_by, regs_of, jump_from, jump, branch_to, branch, end_by, block_end}
use Rattle.bk_emit.specs.Code.{value_lines, step_lines, first_id, block_lines, blocks_lines, function_lines, start_from, start_of}
use Rattle.bk_emit.specs.Forms.{Entry, Forms}
use Rattle.bk_code_laws.proofs.Handed.{with_handle}
use Rattle.bk_code_laws.proofs.Renamed.{renamed, IsPlain, plain_append}

-- only the units of values have handles, and these are the values' own
pub record IsBlind (m : Forms) : Type 0 where
  pub entry : (f : ℕ) → IsPlain (m.entry f)
  pub leave : (f : ℕ) → IsPlain (m.leave f)
  pub load : (d n : ℕ) → IsPlain (m.load d n)
  pub store : (a n : ℕ) → IsPlain (m.store a n)
  pub copy : (d a : ℕ) → IsPlain (m.copy d a)
  pub unit : (r : Handle → Handle) (e : Entry) (g : Regs) (f : ℕ) → m.unit (with_handle r e) g f ≡ map (renamed r) (m.unit e g f)
  pub test : (control : ℕ) → IsPlain (m.test control)
  pub exit : IsPlain m.exit

plain_jump_from : (target : ℕ) (next : Option ℕ) → IsPlain (jump_from target next)
plain_jump_from target None = λ r. refl
plain_jump_from target (Some next) = by (next == target)
  where
    by : (b : Bool) → IsPlain (if b then [] else line.Jump target ∷ [])
    by true = λ r. refl
    by false = λ r. refl

plain_jump : (target next : Option ℕ) → IsPlain (jump target next)
plain_jump (Some target) next = plain_jump_from target next
plain_jump None next = λ r. refl

plain_branch_to : (first second : ℕ) (next : Option ℕ) → IsPlain (branch_to first second next)
plain_branch_to first second None = λ r. refl
plain_branch_to first second (Some next) = by (next == first)
  where
    by : (b : Bool) → IsPlain (if b then line.Branch false second ∷ [] else line.Branch true first ∷ jump_from second (Some next))
    by true = λ r. refl
    by false = λ r. ap (λ ls. line.Branch true first ∷ ls) (plain_jump_from second (Some next) r)

module _ (m : Forms) (is : IsBlind m) where
  plain_move : (f : Frame) (source destination : Spot) → IsPlain (move_by m f source destination)
  plain_move f (Register a) (Register d) = is.copy d a
  plain_move f (Word a) (Register d) = is.load d (slot_offset m f a)
  plain_move f (Register a) (Word d) = is.store a (slot_offset m f d)
  plain_move f (Word a) (Word d) =
      plain_append (load_slot m f m.scratch a) (store_slot m f m.scratch d) (is.load m.scratch (slot_offset m f a)) (is.store m.scratch (slot_offset m f d))

  plain_branch : (control : ℕ) (succs : List ℕ) (next : Option ℕ) → IsPlain (branch m control succs next)
  plain_branch control (first ∷ second ∷ []) next = plain_append (m.test control) (branch_to first second next) (is.test control) (plain_branch_to first second next)
  plain_branch control [] next = λ r. refl
  plain_branch control (first ∷ []) next = λ r. refl
  plain_branch control (first ∷ second ∷ third ∷ rest) next = λ r. refl

  plain_end : (k : Kind) (control : Option ℕ) (succs : List ℕ) (next : Option ℕ) (f : ℕ) → IsPlain (end_by m k control succs next f)
  plain_end Plain control succs next f = plain_jump (slice_get succs 0) next
  plain_end First control succs next f = plain_jump (slice_get succs 0) next
  plain_end If control succs next f = plain_branch (unwrap_or control 0) succs next
  plain_end Ret control succs next f = is.leave f
  plain_end Exit control succs next f = is.exit

  module _ (r : Handle → Handle) (f : Frame) (es : ℕ → Option Entry) where
    -- the values with the other handles
    abbrev others : ℕ → Option Entry
    others id = option_map (with_handle r) (es id)

    renamed_value : (g : Regs) (o : Option Entry) → value_lines m f g (option_map (with_handle r) o) ≡ map (renamed r) (value_lines m f g o)
    renamed_value g None = refl
    renamed_value g (Some e) = is.unit r e g f.bytes

    renamed_step : (s : StepRecord) → step_lines m f others s ≡ map (renamed r) (step_lines m f es s)
    renamed_step (load reg slot) = sym (is.load reg (slot_offset m f slot) r)
    renamed_step (store reg slot) = sym (is.store reg (slot_offset m f slot) r)
    renamed_step (do_value value args place) = renamed_value (regs_of args place) (es value)
    renamed_step (move source destination) = sym (plain_move f (spot_of f source) (spot_of f destination) r)

    renamed_steps : (ss : List StepRecord) → flat_map (step_lines m f others) ss ≡ map (renamed r) (flat_map (step_lines m f es) ss)
    renamed_steps [] = refl
    renamed_steps (s ∷ ss) =
        ap (λ ls. ls ++ flat_map (step_lines m f others) ss) (renamed_step s)
        ∙ (ap (λ ls. map (renamed r) (step_lines m f es s) ++ ls) (renamed_steps ss)
        ∙ sym (map-append (renamed r) (step_lines m f es s) (flat_map (step_lines m f es) ss)))

    renamed_block : (b : PlacedBlockRecord) (next : Option ℕ) → block_lines m f others b next ≡ map (renamed r) (block_lines m f es b next)
    renamed_block b next =
        ap (λ ls. ls ++ block_end m b next f.bytes) (renamed_steps b.steps)
        ∙ (ap (λ ls. map (renamed r) (flat_map (step_lines m f es) b.steps) ++ ls) (sym (plain_end b.kind b.control b.succs next f.bytes r))
        ∙ sym (map-append (renamed r) (flat_map (step_lines m f es) b.steps) (block_end m b next f.bytes)))

    renamed_blocks : (bs : List PlacedBlockRecord) → blocks_lines m f others bs ≡ map (renamed r) (blocks_lines m f es bs)
    renamed_blocks [] = refl
    renamed_blocks (b ∷ bs) =
        ap (λ ls. ls ++ blocks_lines m f others bs) (renamed_block b (first_id bs))
        ∙ (ap (λ ls. map (renamed r) (block_lines m f es b (first_id bs)) ++ ls) (renamed_blocks bs)
        ∙ sym (map-append (renamed r) (block_lines m f es b (first_id bs)) (blocks_lines m f es bs)))

    -- the lines of a function with other handles
    pub renamed_function : (bs : List PlacedBlockRecord) → function_lines m f others bs ≡ map (renamed r) (function_lines m f es bs)
    renamed_function bs =
        ap (λ ls. m.entry f.bytes ++ ls) (renamed_blocks bs)
        ∙ (ap (λ ls. ls ++ map (renamed r) (blocks_lines m f es bs)) (sym (is.entry f.bytes r))
        ∙ sym (map-append (renamed r) (m.entry f.bytes) (blocks_lines m f es bs)))

    same_length : (b : PlacedBlockRecord) (next : Option ℕ) → length (block_lines m f others b next) ≡ length (block_lines m f es b next)
    same_length b next = ap length (renamed_block b next) ∙ length-map (block_lines m f es b next) (renamed r)

    -- blocks begin where they began
    same_start : (n : ℕ) (bs : List PlacedBlockRecord) (at : ℕ) → start_from m f others n bs at ≡ start_from m f es n bs at
    same_start n [] at = refl
    same_start n (b ∷ bs) at =
        ap (λ k. if b.id == n then at else k)
        (ap (λ k. start_from m f others n bs (at + k)) (same_length b (first_id bs)) ∙ same_start n bs (at + length (block_lines m f es b (first_id bs))))

    pub same_starts : (bs : List PlacedBlockRecord) (n : ℕ) → start_of m f others bs n ≡ start_of m f es bs n
    same_starts bs n = same_start n bs (length (m.entry f.bytes))
