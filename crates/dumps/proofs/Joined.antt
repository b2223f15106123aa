-- Images of equal length, one behind another (document 02, P7).
--   joined_long  the length of them all
--   image_at_lem     an image where it stands
--   cut_up       bytes as long as n images are n images
use Prim.Native.Nat.{ℕ, zero, suc, ◌*◌, ◌<◌}
use mathlib.Core.Path.{◌≡◌, refl, sym, ap, ◌∙◌}
use mathlib.Core.List.{List, [], ◌∷◌, ◌++◌, flatten}
use native.Mathlib.Nat.{zero-mul, suc-mul, add_comm, le_of_suc-le-suc}
use native.Mathlib.Omega.{arith}
use lib.ListN.{length, take, drop, get_or, length-append, length-drop, take-append-drop}
use lib.Seq.{take_at, drop_at, drop-drop, length-take-le}
use Rattle.dumps.specs.Tray.{image_at}
use Rattle.dumps.specs.Images.{Alike}

pub joined_long : (each : ℕ) (images : List (List ℕ)) → Alike each images → length (flatten images) ≡ length images * each
unfolding flatten
joined_long each [] _ = sym (zero-mul each)
joined_long each (image ∷ rest) (long, alike) =
    omega (arith, long, joined_long each rest alike, length-append image (flatten rest), suc-mul (length rest) each)

pub image_at_lem : (each : ℕ) (images : List (List ℕ)) → Alike each images → (i : ℕ) → i < length images
    → image_at each (flatten images) i ≡ get_or images i []
unfolding flatten
image_at_lem each [] _ i l = absurd (omega arith)
image_at_lem each (image ∷ rest) (long, alike) zero l = rw (zero-mul each) (take_at image (flatten rest) each long)
image_at_lem each (image ∷ rest) (long, alike) (suc i) l =
    let past : drop (suc i * each) (image ++ flatten rest) ≡ drop (i * each) (drop each (image ++ flatten rest))
    = rw (suc-mul i each, add_comm (i * each) each) (sym (drop-drop (i * each) each (image ++ flatten rest))) in
    rw (past, drop_at image (flatten rest) each long) (image_at_lem each rest alike i (le_of_suc-le-suc l))

pub cut_up : (each n : ℕ) (tray : List ℕ) → length tray ≡ n * each
    → (images : List (List ℕ)) × (length images ≡ n) × Alike each images × (tray ≡ flatten images)
unfolding flatten
cut_up each zero [] long = ([], refl, tt, refl)
cut_up each zero (b ∷ bs) long = absurd (omega (arith, long, zero-mul each))
cut_up each (suc n) tray long =
    let sum = suc-mul n each in
    let (rest, many, alike, joined) = cut_up each n (drop each tray) (omega (arith, length-drop each tray)) in
    let whole = sym (take-append-drop each tray) ∙ ap (λ (l : List ℕ). take each tray ++ l) joined in
    (take each tray ∷ rest, ap suc many, (length-take-le each tray (omega arith), alike), whole)
