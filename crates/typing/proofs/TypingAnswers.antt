-- From what was read to the answer.
use mathlib.Core.Path.{◌≡◌, ap, ◌∙◌}
use mathlib.Core.Option.{none, some}
use mathlib.Core.List.{List}
use Prim.Native.Nat.{ℕ}
use native.Mathlib.Omega.{arith}
use lib.ListN.{length}
use Rattle.meaning.specs.Trees.{Ty, Ta, Target, Tr, Qa}
use Rattle.meaning.specs.Records.{good_arg, good_ty}
use Rattle.meaning.specs.Read.{read_target, read_tys}
use Rattle.meaning.specs.Answers.{Result, ok, no, ◌>>=◌}
use Rattle.meaning.specs.Convert.{common}
use Rattle.meaning.specs.Typing.{typed, type_qa}
use Rattle.meaning.specs.Entries.{hand_ty, type_answer}
use Rattle.laws.proofs.Exact.{tys_exact}
use Rattle.laws.proofs.Sound.{Bytes}
use Rattle.ty.specs.Targets.{TypeIs}
use Rattle.args.specs.Counts.{TypeArg}
use Rattle.args.proofs.Rest.{BothRead, NoneRead, every_all, limit, good_ty_lem}
use Rattle.error.specs.Refusals.{refusal}
use Rattle.error.specs.Told.{Told}
use Rattle.error.proofs.BufferAtExit.{refused}
use Rattle.error.proofs.Refusals.{no_more}
use Rattle.error.proofs.Told.{told_as}
use Rattle.arg_types.specs.Given.{Given}
use Rattle.check_type.specs.Rules.{WholeType}
use Rattle.typing.specs.Hands.{Types}
use Rattle.typing.specs.TypingAnswers.{typed_target}
use Rattle.error.specs.Told.{Written}
use Rattle.std.specs.declared.result.Result.TheVariants.{Err}
use Rattle.error.specs.declared.Refusal.{Refusal}

-- ---- what a rule says is answered

module _ (y : Result Ty) (out : List ℕ) where
  pub types_as : {z : Result Ty} {r : Written} {out' : List ℕ} → y ≡ z → Types z out r out' → Types y out r out'
  types_as e x = told_as (ap (λ (w : Result Ty). w >>= hand_ty (length out)) e) x

  pub answer_no : {x : Refusal} → y ≡ refusal x → Types y out (Err x) out
  answer_no {x} e = refused x out (ap (λ (z : Result Ty). z >>= hand_ty (length out)) e
      ∙ no_more (hand_ty (length out)) x)

  pub answer_type : {t : Ty} {r : Written} {out' : List ℕ} → y ≡ ok t → Told (hand_ty (length out) t) out r out' → Types y out r out'
  answer_type e x = types_as e x

-- ---- `Qa`

module _ (l : List Ty) where
  pub qa_never : common l ≡ none → typed Qa l ≡ no 10
  unfolding typed type_qa
  qa_never h = rw h

  pub qa_some : {n : ℕ} {t : Ty} → n ≡ length l → common l ≡ some t → typed Qa l ≡ ok (Ta n t)
  unfolding typed type_qa
  qa_some e h = rw (h, e)

-- ---- what is read

pub read_given : {target : List ℕ} (s : List ℕ) (b : Bytes s) {n : ℕ} (x : BothRead read_tys target s n) → Given s n x.items
unfolding good_ty
read_given s b x =
    let g = x.for in
    let l = x.items in
    let y = (tys_exact g).sound s l b x.given in
    record {
      row = record {
        within = omega arith;
        here = y.0;
        each = every_all (good_arg g) (TypeArg 15 4096) (good_ty_lem g) l
            (limit g l y.1).0;
      };
      count = x.count;
    }

pub type_whole : {s : List ℕ} (m : TypeIs s) → WholeType s m.type
type_whole m = record { whole = m.stands; good = m.good }

-- the type that the target which is read makes
module _ (target : List ℕ) (l : List Ty) where
  -- "16 typing only: `Tr` .."
  pub target_runtime : {t : Ty} → read_target target ≡ some (Tr t) → typed_target target l ≡ no 16
  unfolding typed_target typed
  target_runtime e = rw e

  pub target_types : {g : Target} → read_target target ≡ some g → typed_target target l ≡ typed g l
  unfolding typed_target
  target_types e = rw e

-- ---- the answer

module _ (target args : List ℕ) where
  -- "1 bad target record"
  pub no_target : (room : ℕ) → read_target target ≡ none → type_answer target args room ≡ no 1
  unfolding type_answer
  no_target room e = rw e

  -- "2 bad argument"
  pub no_args : (room : ℕ) → NoneRead read_tys target args → type_answer target args room ≡ no 2
  unfolding type_answer
  no_args room x = rw (x.reads, x.bad)

  -- what is made of the arguments
  pub read_types : {n : ℕ} (x : BothRead read_tys target args n) {out out' : List ℕ} {r : Written}
      → Types (typed_target target x.items) out r out' → Told (type_answer target args (length out)) out r out'
  unfolding type_answer typed_target
  read_types x b = told_as (rw (x.reads, x.given)) b
