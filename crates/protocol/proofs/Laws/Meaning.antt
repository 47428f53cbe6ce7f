-- From a `Meaning` of the operations: the decided transactions' answers are the map's.
use Rattle.std.specs.Prelude.{◌≡◌, refl, Bool}
use Rattle.std.proofs.Common.{sym, ◌∙◌, subst}
use Rattle.std.proofs.Math.Path.{fun_ext}
use Rattle.std.proofs.Math.Bool.{true, false}
use mathlib.Core.List.{List, [], ◌∷◌}
use Rattle.base.specs.Test.{not_both}
use Rattle.protocol.specs.Setting.{Setting}
use Rattle.protocol.specs.State.{Entry, Decided, transacted, reconfigured}
use Rattle.protocol.specs.Replay.{effect, Answers, Uncompared, Runs, Replays}
use Rattle.protocol.specs.Meaning.{Meaning, Shown, shown_of, map_of, Right, map_all, RightAll}

module _ (T : Setting) where
  open T use {public, answer_of}

  unfoldable pub show : List (Entry T) → List (Shown T)
  show [] = []
  show (e ∷ t) = shown_of T e ∷ show t

  unfoldable pub show_all : List (Decided T) → List (List (Shown T))
  show_all [] = []
  show_all (transacted t b ∷ l) = show t ∷ show_all l
  show_all (reconfigured v ∷ l) = show_all l

module _ (T : Setting) (Z : Meaning T) where
  open T use {Obj, Val, public, compared}
  open Z use {Map, map_answer, map_after, uncompared_after, HoldsMap, first_map, first_holds, alike_holds, sound}

  trace_right : (t : List (Entry T)) (M : Obj → Val) (m : Map) → HoldsMap M m → Answers T t M
      → HoldsMap (effect T t M) (map_of T Z (show T t) m) × Right T Z (show T t) m
  unfolding effect Answers map_of Right show
  trace_right [] M m r h = (r, tt)
  trace_right (e ∷ t) M m r h =
      let before = trace_right t M m r h.0 in
      let now = sound e.op (effect T t M) (map_of T Z (show T t) m) e.result before.0 h.1 in
      (now.1, (before.1, now.0))

  uncompared_right : (t : List (Entry T)) (m : Map) → Uncompared T t → (map_of T Z (show T t) m ≡ m) × Right T Z (show T t) m
  unfolding Uncompared map_of Right show
  uncompared_right [] m h = (refl, tt)
  uncompared_right (e ∷ t) m h =
      let before = uncompared_right t m h.0 in
      (uncompared_after (public e.op) (map_of T Z (show T t) m) h.1 ∙ before.0, (before.1, λ c. absurd (not_both c h.1)))

  runs_right : (b : Bool) (t : List (Entry T)) (M U : Obj → Val) (m : Map) → HoldsMap M m → Runs T b t M U
      → HoldsMap U (map_of T Z (show T t) m) × Right T Z (show T t) m
  unfolding Runs
  runs_right true t M U m r h =
      let k = trace_right t M m r h.0 in
      (subst (λ W. HoldsMap W (map_of T Z (show T t) m)) (sym (fun_ext h.1)) k.0, k.1)
  runs_right false t M U m r h =
      let k = uncompared_right t m h.0 in
      (subst (λ n. HoldsMap U n) (sym k.0) (subst (λ W. HoldsMap W m) (sym (fun_ext h.1)) r), k.1)

  -- decided transactions that replay to U are right, and U holds the map after them
  pub log_right : (l : List (Decided T)) (U : Obj → Val) → Replays T l U → HoldsMap U (map_all T Z (show_all T l)) × RightAll T Z (show_all T l)
  unfolding Replays map_all RightAll show_all
  log_right [] U h = (subst (λ W. HoldsMap W first_map) (sym (fun_ext h)) first_holds, tt)
  log_right (transacted t b ∷ l) U h =
      let before = log_right l h.0 h.1 in
      let now = runs_right b t h.0 U (map_all T Z (show_all T l)) before.0 h.2 in
      (now.0, (before.1, now.1))
  log_right (reconfigured v ∷ l) U h =
      let before = log_right l h.0 h.1 in
      (subst (λ W. HoldsMap W (map_all T Z (show_all T l))) (sym (fun_ext h.3)) (alike_holds h.0 (map_all T Z (show_all T l)) v before.0 h.2), before.1)
