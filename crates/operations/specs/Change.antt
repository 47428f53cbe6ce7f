-- Insert and delete: the new entries of a leaf are carried up, "level by level from the lowest".
use Rattle.std.specs.Prelude.{cond, List, [], ◌∷◌, ◌++◌, ℕ, zero, suc, ◌-◌, length, take, drop}
use Rattle.std.proofs.Math.Option.{Option, none, some}
use Rattle.std.proofs.Math.Decide.{ℕ_discrete, dec_lt, dec_le}
use Rattle.base.specs.Test.{ifd}
use Rattle.nodes.specs.declared.standing.KeyPlace.{KeyPlace}
use Rattle.nodes.specs.Lists.{remove_at}
use Rattle.operations.specs.Object.{node, no_tree, Ans, Writes}
use Rattle.operations.specs.Map.{fresh}
use Rattle.operations.specs.Entry.{Entries, node_value, fewest_entries, most_entries, first_key_or, place_in, value_in, with_pair}
use Rattle.operations.specs.Path.{TreePlan, kid, Branch, from_root}
use Rattle.operations.specs.Slot.{take_for, take_node, release}
use Rattle.plans.specs.Plan as P

-- what follows with the new entries of the parent
abbrev pub Go : Type 0
Go = Writes → Entries → TreePlan

-- the entries of the branch's node with one child where it was followed, or with two beside each other
abbrev pub with_one : Branch → ℕ → Entries
with_one f c = f.pre ++ (f.key, c) ∷ f.post

-- with two: the child c, and d from the key k on
abbrev pub with_two : Branch → ℕ → ℕ → ℕ → Entries
with_two f c k d = f.pre ++ (f.key, c) ∷ (k, d) ∷ f.post

-- two parts of one node's entries, or of two neighbours': es in c and es' in d, which is never empty. "the first key of the right one goes
-- up"; an inner node does not store that key, so of its keys it is "the eighth going up"
abbrev pub parted : Go → ℕ → Writes → Branch → ℕ → Entries → ℕ → Entries → TreePlan
parted go l w f c es d es' = go ((node d, node_value l es') ∷ (node c, node_value l es) ∷ w) (with_two f c (first_key_or es' 0) d)

-- x in front of entries that are parted so
abbrev pub unsnoc_step : {A : Type 0} → A → Option (List A × A) → Option (List A × A)
unsnoc_step x none = some ([], x)
unsnoc_step x (some r) = some (x ∷ r.0, r.1)

-- the entries but the last, and the last, if there is one
abbrev pub unsnoc : {A : Type 0} → List A → Option (List A × A)
unsnoc [] = none
unsnoc (x ∷ xs) = unsnoc_step x (unsnoc xs)

-- one plan at the root, another below it
abbrev pub at_top : List Branch → TreePlan → TreePlan → TreePlan
at_top [] p q = p
at_top (f ∷ fs) p q = q

-- NEIGHBOURS of a node c of level l with the entries es: f is the branch in the parent, fs the path above
module _ (a : Ans) (l : ℕ) (fs : List Branch) (go : Go) where
  -- on with the parent's entries, of which c is one
  abbrev pub onward : Writes → Branch → ℕ → Entries → TreePlan
  onward w f c es = go ((node c, node_value l es) ∷ w) (with_one f c)

  -- a root that is left with the child c alone takes over its contents, and c is freed
  abbrev pub collapsed : Writes → Branch → ℕ → Entries → TreePlan
  collapsed w f c es = release w c (λ w'. P.done (a, (node f.nm, node_value l es) ∷ w'))

  -- two nodes merged into c. "An inner root left with no key takes over its only child's contents, and the child is freed."
  abbrev pub merged : Writes → Branch → ℕ → Entries → TreePlan
  merged w f c es = at_top fs (ifd (ℕ_discrete (length (with_one f c)) 1) (collapsed w f c es) (onward w f c es)) (onward w f c es)

  -- "a non-root node left with 6 keys turns to its right neighbour under the same parent": "From 8 or more keys one moves over, in inner nodes
  -- through the parent; from 7 the two merge into the left one and the right is freed." And "a node is its own neighbour"
  abbrev pub with_right : Writes → Branch → ℕ → Entries → ℕ → ℕ → TreePlan
  with_right w f c es k2 c2 =
      ifd (ℕ_discrete c2 c) (P.fail no_tree)
      (kid w l k2 c2 (λ es2. ifd (dec_lt (fewest_entries l) (length es2))
      (parted go l w f c (es ++ take 1 es2) c2 (drop 1 es2))
      (release w c2 (λ w'. merged w' f c (es ++ es2)))))

  -- "or to the left one if it is the last child"
  abbrev pub with_left : Writes → Branch → ℕ → Entries → ℕ → TreePlan
  with_left w f c es c1 =
      ifd (ℕ_discrete c1 c) (P.fail no_tree)
      (kid w l f.key c1 (λ es1. let n = length es1 - 1 in ifd (dec_lt (fewest_entries l) (length es1))
      (parted go l w f c1 (take n es1) c (drop n es1 ++ es))
      (release w c (λ w'. merged w' f c1 (es1 ++ es)))))

  -- the branch to the left neighbour; an only child would be its own neighbour
  abbrev pub left_of : Writes → ℕ → ℕ → Entries → Option (Entries × (ℕ × ℕ)) → TreePlan
  left_of w r c es none = P.fail no_tree
  left_of w r c es (some q) = with_left w (record { nm = r; key = q.1.0; pre = q.0; post = [] }) c es q.1.1

  -- "its right neighbour under the same parent, or to the left one if it is the last child": last comes what follows c there
  abbrev pub neighbour : Writes → Branch → ℕ → Entries → Entries → TreePlan
  neighbour w f c es (e ∷ post) = with_right w (record { nm = f.nm; key = f.key; pre = f.pre; post = post }) c es e.0 e.1
  neighbour w f c es [] = left_of w f.nm c es (unsnoc f.pre)

-- "a split root keeps its name as parent and both halves get new ones"; "Of a root's halves the left is placed first."
abbrev pub split_root : ℕ → Ans → ℕ → Writes → ℕ → Entries → TreePlan
split_root slots a l w r es =
    take_for slots r w (λ c w1. take_for slots r w1 (λ d w2. take_node w2 c (take_node w2 d
    (parted (λ w' es'. P.done (a, (node r, node_value (suc l) es') ∷ w')) l w2 (record { nm = r; key = 0; pre = []; post = [] })
    c (take (fewest_entries l) es) d (drop (fewest_entries l) es)))))

-- "A leaf of 15 pairs splits into 7 and 8"; "An inner node of 15 keys splits into 7 and 7"; "The left half keeps the name"
abbrev pub split : ℕ → Go → ℕ → Writes → Branch → ℕ → Entries → TreePlan
split slots go l w f c es = take_for slots c w (λ d w1. take_node w1 d (parted go l w1 f c (take (fewest_entries l) es) d (drop (fewest_entries l) es)))

-- the new entries es of the node c at level l, below the path fs
abbrev pub up : ℕ → Ans → (l : ℕ) → List Branch → Writes → ℕ → Entries → TreePlan
up slots a l [] w c es = ifd (dec_le (length es) (most_entries l)) (P.done (a, (node c, node_value l es) ∷ w)) (split_root slots a l w c es)
up slots a l (f ∷ fs) w c es =
    let go : Go = λ w' es'. up slots a (suc l) fs w' f.nm es' in
    ifd (dec_le (fewest_entries l) (length es))
    (ifd (dec_le (length es) (most_entries l)) (P.done (a, (node c, node_value l es) ∷ w)) (split slots go l w f c es))
    (neighbour a l fs go w f c es f.post)

-- "Insert of a present key replaces its value and writes the leaf, even with an equal value."
abbrev pub insert_plan : ℕ → ℕ → ℕ → TreePlan
insert_plan slots key v = from_root key (λ fs n es. up slots (fresh (value_in key es)) zero fs [] n (with_pair key v es))

-- a key that is not there changes nothing
abbrev pub delete_at : ℕ → List Branch → ℕ → Entries → KeyPlace → TreePlan
delete_at slots fs n es p = cond p.there (up slots (1, 0, []) zero fs [] n (remove_at (p.place - 1) es)) (P.done ((0, 0, []), []))

-- "Delete removes the key; a is 1 if it was there."
abbrev pub delete_plan : ℕ → ℕ → TreePlan
delete_plan slots key = from_root key (λ fs n es. delete_at slots fs n es (place_in key es))
