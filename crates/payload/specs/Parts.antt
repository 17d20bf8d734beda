-- The members of present rows one after the other, in table order, as the writer's passes give them. Laws show that these are the bytes of
-- the tree, and what is too wide there is too wide here.
use Rattle.std.specs.Prelude.{ℕ, suc, Bool, false, List, [], ◌∷◌, ◌++◌, length, ltb}
use Rattle.wire.specs.Choose.{pick, or}
use Rattle.wire.specs.Number.{big, number_bytes}
use Rattle.wire.specs.Tag.{wire_of}
use Rattle.payload.specs.Tree.{field_bytes, member_bytes}
use Rattle.payload.specs.Writing.{Put, nothing, leaf, branch, Part, too_wide}

-- a part's own bytes, where a struct's content has n bytes
unfoldable pub piece : ℕ → ℕ → Put → ℕ → List ℕ
piece width tag nothing n = []
piece width tag (leaf c) n = member_bytes width tag c
piece width tag branch n = number_bytes big 2 tag ++ field_bytes width (wire_of tag) n

-- the bytes of the first of these parts, as far as they are of level l or deeper
unfoldable pub under : ℕ → ℕ → List Part → List ℕ
under width l [] = []
under width l (p ∷ ps) =
    pick (ltb p.level l) []
    (piece width p.tag p.put (length (under width (suc p.level) ps)) ++ under width l ps)

unfoldable pub wide_here : ℕ → ℕ → Put → ℕ → Bool
wide_here width tag nothing n = false
wide_here width tag (leaf c) n = too_wide width tag (length c)
wide_here width tag branch n = too_wide width tag n

-- the content of some of them is too wide
unfoldable pub wide_under : ℕ → ℕ → List Part → Bool
wide_under width l [] = false
wide_under width l (p ∷ ps) =
    pick (ltb p.level l) false
    (or (wide_here width p.tag p.put (length (under width (suc p.level) ps))) (wide_under width l ps))
