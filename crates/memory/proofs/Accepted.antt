-- What the two entries accept, for all bytes: what was written is a value's, as long as its type says and no longer
-- than the buffer, and reads back as the record that was given; what was read is a well-formed value, and is written
-- again as the same bytes but for the padding.
use mathlib.Core.Path.{◌≡◌, refl, sym, ap, ◌∙◌}
use mathlib.Core.Option.{Option, none, some}
use mathlib.Core.List.{List}
use mathlib.Core.Bool.{Bool, true, false}
use Prim.Native.Nat.{ℕ, ◌≤◌}
use native.Mathlib.Omega.{arith}
use lib.Dec.{T, leb, eqb, leb→le, eqb→eq}
use lib.ListN.{length}
use Rattle.meaning.specs.Trees.{Ty, Val, Target, Of, Tr, Qa, Qv, Qm, type_of, val_len}
use Rattle.meaning.specs.Records.{ty_bytes, val_bytes, target_bytes, shaped_val, good_ty, good_val, good_target}
use Rattle.meaning.specs.Read.{read_val, read_target}
use Rattle.meaning.specs.Answers.{ok, Answer, or_no, need, ◌>>=◌, ◌>>◌}
use Rattle.meaning.specs.Entries.{hand_val}
use Rattle.meaning.specs.Layout.{has_layout, size_of, mem_bytes, mem_value, used, cleared, laid_type, write_answer, read_answer}
use Rattle.laws.proofs.Back.{and_l}
use Rattle.laws.proofs.Exact.{val_exact, target_exact}
use Rattle.laws.proofs.Handed.{WholeValue, hands_value}
use Rattle.laws.proofs.Length.{val_len_lem}
use Rattle.laws.proofs.Named.{ok_inj, no_ok}
use Rattle.laws.proofs.Sound.{Bytes}
use Rattle.memory.proofs.Length.{mem_size}
use Rattle.memory.proofs.RoundTrip.{read_good, reads, writes_bytes}

-- ---- writing

pub record Wrote (args : List ℕ) (room : ℕ) (s : List ℕ) : Type 0 where
  pub value : Val
  pub good : T (good_val value)
  pub given : args ≡ val_bytes value
  pub laid : T (has_layout (type_of value))
  pub is : s ≡ mem_bytes value
  pub long : length s ≡ size_of (type_of value)
  pub fits : length s ≤ room

pub writing : (args : List ℕ) (room : ℕ) (s : List ℕ) → Bytes args → write_answer args room ≡ ok s → Wrote args room s
unfolding write_answer good_val
writing args room s b h = found (read_val args) refl h
  where
    tested : (v : Val) (x y : Bool) → read_val args ≡ some v → has_layout (type_of v) ≡ x → leb (size_of (type_of v)) room ≡ y
        → ◌≡◌ {A = Answer} (need x 25 >> (need y 22 >> ok (mem_bytes v))) (ok s) → Wrote args room s
    tested v true true e p q r =
        let w = val_exact.sound args v b e in
        let i : s ≡ mem_bytes v = sym (ok_inj r) in
        let n : length s ≡ size_of (type_of v) = ap length i ∙ mem_size v (and_l (shaped_val v) (good_ty (type_of v)) w.1) in
        record {
          value = v;
          good = w.1;
          given = w.0;
          laid = rw p tt;
          is = i;
          long = n;
          fits = omega
              (arith, n, leb→le (size_of (type_of v)) room (rw q tt));
        }
    tested v true false e p q r = no_ok r
    tested v false y e p q r = no_ok r

    found : (o : Option Val) → read_val args ≡ o
        → ◌≡◌ {A = Answer} (or_no 2 o >>= λ v. need (has_layout (type_of v)) 25 >>
        (need (leb (size_of (type_of v)) room) 22 >> ok (mem_bytes v))) (ok s) → Wrote args room s
    found none e r = no_ok r
    found (some v) e r = tested v (has_layout (type_of v)) (leb (size_of (type_of v)) room) e refl refl r

-- what was written, read by the value's type, is the record that was given
pub wrote_reads : {args : List ℕ} {room : ℕ} {s : List ℕ} (w : Wrote args room s) (room' : ℕ) → length args ≤ room'
    → read_answer (ty_bytes (type_of w.value)) s room' ≡ ok args
unfolding good_val
wrote_reads {args} {s = s} w room' h =
    let n : length args ≡ val_len (type_of w.value) = ap length w.given
    ∙ val_len_lem w.value (and_l (shaped_val w.value) (good_ty (type_of w.value)) w.good) in
    rw (w.is, w.given) (reads w.value w.good w.laid room' (omega arith))

-- ---- reading

pub record Read (target memory : List ℕ) (room : ℕ) (r : List ℕ) : Type 0 where
  pub type : Ty
  pub good : T (good_ty type)
  pub given : target ≡ ty_bytes type
  pub laid : T (has_layout type)
  pub size : length memory ≡ size_of type
  pub is : r ≡ val_bytes (mem_value type memory)
  pub whole : WholeValue room r

handed : (room : ℕ) (v : Val) (r : List ℕ) → hand_val room v ≡ ok r → r ≡ val_bytes v
unfolding hand_val
handed room v r h = go (leb (val_len (type_of v)) room) h
  where
    go : (b : Bool) → ◌≡◌ {A = Answer} (need b 22 >> ok (val_bytes v)) (ok r) → r ≡ val_bytes v
    go true e = sym (ok_inj e)
    go false e = no_ok e

pub reading : (target memory : List ℕ) (room : ℕ) (r : List ℕ) → Bytes target → Bytes memory → read_answer target memory room ≡ ok r
    → Read target memory room r
unfolding read_answer laid_type target_bytes good_target
reading target memory room r b c h = found (read_target target) refl h
  where
    sized : (t : Ty) → read_target target ≡ some (Of t) → T (has_layout t) → (y : Bool) → eqb (length memory) (size_of t) ≡ y
        → ◌≡◌ {A = Answer} (need y 26 >> hand_val room (mem_value t memory)) (ok r) → Read target memory room r
    sized t e l true q h =
        let w = target_exact.sound target (Of t) b e in
        let v = mem_value t memory in
        let n : length memory ≡ size_of t = eqb→eq (length memory) (size_of t) (rw q tt) in
        record {
          type = t;
          good = w.1;
          given = w.0;
          laid = l;
          size = n;
          is = handed room v r h;
          whole = hands_value room v r
              (read_good t memory c w.1 l) h;
        }
    sized t e l false q h = no_ok h

    tested : (t : Ty) → read_target target ≡ some (Of t) → (x : Bool) → has_layout t ≡ x
        → ◌≡◌ {A = Answer} ((need x 25 >> ok t) >>= λ u. need (eqb (length memory) (size_of u)) 26 >> hand_val room (mem_value u memory))
        (ok r) → Read target memory room r
    tested t e true p h = sized t e (rw p tt) (eqb (length memory) (size_of t)) refl h
    tested t e false p h = no_ok h

    found : (o : Option Target) → read_target target ≡ o
        → ◌≡◌ {A = Answer} (or_no 1 o >>= λ g. laid_type g >>= λ t. need (eqb (length memory) (size_of t)) 26 >> hand_val room
        (mem_value t memory)) (ok r) → Read target memory room r
    found none e h = no_ok h
    found (some (Of t)) e h = tested t e (has_layout t) refl h
    found (some (Tr t)) e h = no_ok h
    found (some Qa) e h = no_ok h
    found (some (Qv n)) e h = no_ok h
    found (some (Qm m n)) e h = no_ok h

-- what was read, written again, is the same bytes but for the padding
pub read_writes : {target memory : List ℕ} {room : ℕ} {r : List ℕ} → Bytes memory → (w : Read target memory room r) (room' : ℕ)
    → length memory ≤ room'
    → write_answer r room' ≡ ok (cleared (used w.type) memory)
read_writes {memory = memory} b w room' h = rw w.is (writes_bytes w.type w.good w.laid memory b w.size room'
    (omega (arith, w.size)))
