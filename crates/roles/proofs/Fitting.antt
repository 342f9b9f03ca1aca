-- What may stand on a subcarrier, by its rank, its mark and the scattered pattern, is what its role asks for. Assumes nothing.
use Prim.Native.Nat.{ℕ, ◌<◌}
use mathlib.Core.Path.{◌≡◌, refl, ap, ◌∙◌}
use mathlib.Core.Bool.{Bool, true, false, not, ◌&&◌, ◌||◌}
use lib.Dec.{leb, eqb}
use borrow.Author.Tests.{lt-ltb}
use Rattle.counting.specs.Search.{pick}
use Rattle.rules.specs.declared.Device.{Device}
use Rattle.rules.specs.Plan.{Plan}
use Rattle.rules.specs.Bands.{excluded, active}
use Rattle.rules.specs.Roles.{in_plc, continuous, scattered_at, role, ranked, first_mark, first_role}
use Rattle.rules.specs.Frame.{Frame, frame_of, fits_role, placeholder, filler}
use Rattle.roles.proofs.Testing.{mark_is, role_is}

-- the cell x may stand on subcarrier k of a symbol at phase j, data up to a limit
unfoldable pub cell_fits : Frame → ℕ → ℕ → ℕ → ℕ → Bool
cell_fits F limit j k x = pick (F.ranked k) (pick (F.pattern j k) (eqb x placeholder) (leb x limit || eqb x filler)) (eqb x (F.mark k))

-- it is what the role asks for
pub fits_role_lem : (d : Device) (p : Plan) (limit j k x : ℕ) → k < d.subcarriers → cell_fits (frame_of d p) limit j k x ≡ fits_role limit (role d p j k) x
unfolding cell_fits frame_of ranked active
fits_role_lem d p limit j k x l =
    (λ i. pick (((lt-ltb k d.subcarriers l i && not (excluded p k)) && not (in_plc d p k)) && not (continuous d p k)) (pick (scattered_at d p j k) (eqb x placeholder) (leb x limit || eqb x filler)) (eqb x (mark_is d p k i)))
    ∙ go (excluded p k) (in_plc d p k) (continuous d p k) (scattered_at d p j k)
    ∙ ap (λ r. fits_role limit r x) (role_is d p j k _ _ _ _ refl refl refl refl)
  where
    go : (a b c e : Bool) → pick (((true && not a) && not b) && not c) (pick e (eqb x placeholder) (leb x limit || eqb x filler)) (eqb x (first_mark a b c)) ≡ fits_role limit (first_role a b c e) x
    go true b c e = refl
    go false true c e = refl
    go false false true e = refl
    go false false false true = refl
    go false false false false = refl
