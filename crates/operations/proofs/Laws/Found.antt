-- A name that occurs in a tree is a node of it: where it is, and what follows (keys rise, a migrated node is met).
use Rattle.std.specs.Prelude.{◌≡◌, refl, Bool, true, false, List, [], ◌∷◌, ℕ, zero, suc, ◌+◌, ◌<◌, ◌≤◌, length}
use Rattle.std.proofs.Common.{ap, sym, ◌∙◌, subst, inl, inr, arith}
use Rattle.std.proofs.Math.Decide.{ℕ_discrete, dec_le}
use Rattle.std.proofs.lemmas.List.{length-map}
use Rattle.operations.specs.Object.{Obj, node, flag, Val, root, body, taken, flags, free, keys_in, level_of}
use Rattle.operations.specs.Map.{Map, two_to_64}
use Rattle.operations.specs.Entry.{Entries, keys, node_value, fewest_entries, first_key_or}
use Rattle.operations.proofs.Laws.Chain.{Rising, rising_from, rising_le, rising_upto, one_other, chain_le, chain_rising, ren_keys}
use Rattle.operations.specs.Chain.{one, Chain, tally, ren}
use Rattle.operations.specs.Tree.{Slot, word, cnt, Starts, Kid, Entry, Mark}
use Rattle.operations.proofs.Laws.Focus.{entry_rise, Rep}
use Rattle.operations.proofs.Laws.Moves.{starts_le}

-- a node of the tree with the name n, of a level below l, within the bounds
pub record Found (N : ℕ → Val) (l a z n : ℕ) : Type 0 where
  pub lv : ℕ
  pub k : ℕ
  pub b : ℕ
  pub es : List (ℕ × Slot lv)
  pub kid : Kid N lv (Entry N lv) k b (n, es)
  pub under : lv < l
  pub from : a ≤ k
  pub upto : b ≤ z

widen : (N : ℕ → Val) (l j a c y z n : ℕ) → l ≤ j → a ≤ c → y ≤ z → Found N l c y n → Found N j a z n
widen N l j a c y z n h p q f =
    record { lv = f.lv; k = f.k; b = f.b; es = f.es; kid = f.kid; under = omega (arith, f.under, h); from = omega (arith, f.from, p); upto = omega (arith, f.upto, q) }

-- a leaf has no names
pub leaf_tally : (es : List (ℕ × ℕ)) (x : ℕ) → tally (cnt zero) es x ≡ 0
leaf_tally [] x = refl
leaf_tally (e ∷ es) x = omega (arith, leaf_tally es x)

pub locate : (N : ℕ → Val) (l n b : ℕ) (es : List (ℕ × Slot l)) → Chain (Entry N l) b es → 1 ≤ tally (cnt l) es n → Found N l (first_key_or es b) b n
locate N zero n b es c h = absurd (omega (arith, leaf_tally es n, h))
locate N (suc l) n b es c h = go b es c h (λ b es c h. locate N l n b es c h)
  where
    go : (b : ℕ) (es : List (ℕ × Slot (suc l))) → Chain (Entry N (suc l)) b es → 1 ≤ tally (cnt (suc l)) es n
        → ((b : ℕ) (es : List (ℕ × Slot l)) → Chain (Entry N l) b es → 1 ≤ tally (cnt l) es n → Found N l (first_key_or es b) b n) → Found N (suc l) (first_key_or es b) b n
    go b [] c h rec = absurd (omega (arith, h))
    go b (e ∷ es) c h rec = by (ℕ_discrete n e.1.0) (dec_le 1 (tally (cnt l) e.1.1 n)) (λ i. go b es c.1 i rec)
      where
        r : first_key_or es b ≤ b
        r = chain_le (Entry N (suc l)) (entry_rise N (suc l)) b es c.1

        by : Dec (n ≡ e.1.0) → Dec (1 ≤ tally (cnt l) e.1.1 n) → (1 ≤ tally (cnt (suc l)) es n → Found N (suc l) (first_key_or es b) b n) → Found N (suc l) e.0 b n
        by (yes q) d rest = record {
          lv = l;
          k = e.0;
          b = first_key_or es b;
          es = e.1.1;
          kid = subst (λ x. Kid N l (Entry N l) e.0 (first_key_or es b) (x, e.1.1)) (sym q) c.0;
          under = omega arith;
          from = omega arith;
          upto = r;
        }
        by (no q) (yes d) rest = widen N l (suc l) e.0 (first_key_or e.1.1 (first_key_or es b)) (first_key_or es b) b n (omega arith)
            (starts_le l e.0 (first_key_or e.1.1 (first_key_or es b)) c.0.from) r (rec (first_key_or es b) e.1.1 c.0.segs d)
        by (no q) (no d) rest = widen N (suc l) (suc l) e.0 (first_key_or es b) b b n (omega arith) (omega (arith, entry_rise N (suc l) e.0 (first_key_or es b) e.1 c.0)) (omega arith)
            (rest (omega (arith, h, one_other e.1.0 n q, d)))

-- the keys that a node stores rise and are within its bounds
pub level_mk : (l : ℕ) (es : Entries) → level_of (node_value l es) ≡ l
level_mk zero es = refl
level_mk (suc l) es = refl

chain_keys : (N : ℕ → Val) (l b : ℕ) (es : List (ℕ × Slot l)) → Chain (Entry N l) b es → Rising (first_key_or es b) b (keys (ren (word l) es))
chain_keys N l b es c = subst (Rising (first_key_or es b) b) (sym (ren_keys (word l) es)) (chain_rising (Entry N l) (entry_rise N l) b es c)

pub stored_rising : (N : ℕ → Val) (l k b : ℕ) (es : List (ℕ × Slot l)) → Starts l k (first_key_or es b) → k ≤ b → Chain (Entry N l) b es → Rising k b (keys_in (node_value l (ren (word l) es)))
stored_rising N zero k b es s i c = rising_from k (first_key_or es b) b (keys (ren (word zero) es)) s (chain_keys N zero b es c)
stored_rising N (suc l) k b [] s i c = i
stored_rising N (suc l) k b (e ∷ es) s i c =
    rising_from k (first_key_or es b) b (keys (ren (word (suc l)) es)) (omega (arith, s, entry_rise N (suc l) e.0 (first_key_or es b) e.1 c.0)) (chain_keys N (suc l) b es c.1)

-- what holds of the free node and of each node of the tree holds of every node
pub every : (U : Obj → Val) (m : Map) (R : Rep U m) (Q : Val → Type 0) → Q free
    → ((l k b : ℕ) (es : List (ℕ × Slot l)) → l ≤ R.level → Starts l k (first_key_or es b) → k ≤ b → b ≤ two_to_64 → Chain (Entry (λ n. U (node n)) l) b es → Q (node_value l (ren (word l) es)))
    → (n : ℕ) → Q (U (node n))
every U m R Q none each n = go (R.tree.marks n) (ℕ_discrete n R.name)
  where
    l : ℕ
    l = R.level

    deep : Found (λ n. U (node n)) l (first_key_or R.ents two_to_64) two_to_64 n → Q (U (node n))
    deep F = subst Q (sym F.kid.at) (each F.lv F.k F.b F.es (omega (arith, F.under)) F.kid.from (omega (arith, F.kid.rise)) F.upto F.kid.segs)

    go : Mark (U (flag n)) (U (node n)) (0 + one R.name n + tally (cnt l) R.ents n + 0) → Dec (n ≡ R.name) → Q (U (node n))
    go (inr q) d = subst Q (sym q.2) none
    go (inl q) (yes e) = subst Q (sym (ap (λ x. U (node x)) e ∙ R.stored)) (each l 0 two_to_64 R.ents (omega arith) R.tree.from (omega arith) (omega arith) R.tree.segs)
    go (inl q) (no e) = deep (locate (λ n. U (node n)) l n two_to_64 R.ents R.tree.segs (omega (arith, q.0, one_other R.name n e)))

-- keys rise and are below 2^64, levels are at most 4
pub all_rising : (U : Obj → Val) (m : Map) → Rep U m → (n : ℕ) → Rising 0 two_to_64 (keys_in (U (node n)))
all_rising U m R = every U m R (λ v. Rising 0 two_to_64 (keys_in v)) (omega arith) (λ l k b es _ s i j c.
    let ks = keys_in (node_value l (ren (word l) es)) in
    rising_from 0 k two_to_64 ks (omega arith) (rising_upto k b two_to_64 ks j (stored_rising (λ n. U (node n)) l k b es s i c)))

pub all_levels : (U : Obj → Val) (m : Map) → Rep U m → (n : ℕ) → level_of (U (node n)) ≤ 4
all_levels U m R = every U m R (λ v. level_of v ≤ 4) (omega arith) (λ l k b es h s i j c. omega (arith, h, R.tree.lev, level_mk l (ren (word l) es)))

-- there is a node under every name
abbrev pub node_like : Val → Bool
node_like (root r st) = false
node_like (body k l ks vs) = true
node_like (taken b) = false
node_like (flags fs) = false

pub all_nodes : (U : Obj → Val) (m : Map) → Rep U m → (n : ℕ) → node_like (U (node n)) ≡ true
all_nodes U m R = every U m R (λ v. node_like v ≡ true) refl (λ l k b es h s i j c. mk_node l (ren (word l) es))
  where
    mk_node : (l : ℕ) (es : Entries) → node_like (node_value l es) ≡ true
    mk_node zero es = refl
    mk_node (suc l) es = refl

-- a node that is stored with the first key `key` is met by that key, and is of its own level
pub record Met (N : ℕ → Val) (l key a z lv : ℕ) : Type 0 where
  pub from : a ≤ key
  pub upto : key < z
  pub under : lv < l

pub met : (N : ℕ → Val) (n j lv key : ℕ) (ks vs : List ℕ) → N n ≡ body j lv (key ∷ ks) vs
    → (l b : ℕ) (es : List (ℕ × Slot l)) → Chain (Entry N l) b es → 1 ≤ tally (cnt l) es n → Met N l key (first_key_or es b) b lv
met N n j lv key ks vs e l b es c h =
    let F = locate N l n b es c h in
    let v : node_value F.lv (ren (word F.lv) F.es) ≡ body j lv (key ∷ ks) vs = sym F.kid.at ∙ e in
    let r : Rising F.k F.b (key ∷ ks) = subst (λ z. Rising F.k F.b (keys_in z)) v
    (stored_rising N F.lv F.k F.b F.es F.kid.from (omega (arith, F.kid.rise)) F.kid.segs) in
    let i : F.lv ≡ lv = sym (level_mk F.lv (ren (word F.lv) F.es)) ∙ ap level_of v in
    record { from = omega (arith, F.from, r.0); upto = omega (arith, F.upto, rising_le (suc key) F.b ks r.1); under = omega (arith, F.under, i) }

pub stored_length : (l : ℕ) (es : Entries) → fewest_entries l ≤ length es → 7 ≤ length (keys_in (node_value l es))
stored_length zero es h = omega (arith, h, length-map es (λ e. e.0))
stored_length (suc l) [] h = omega (arith, h)
stored_length (suc l) (e ∷ es) h = omega (arith, h, length-map es (λ e. e.0))
