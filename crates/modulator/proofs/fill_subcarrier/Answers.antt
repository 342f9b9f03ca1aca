-- `modulator::fill_subcarrier` meets its contract, case by case. Assumes nothing.
use lib.Ieee.{of_bits}
use Rattle.modulator.proofs.fill_subcarrier.Goals as goal

pub returns-in-Silent : goal.returns-in-Silent
unfolding of_bits
returns-in-Silent c = rw c.in-Silent.is c.put_pair.ensures

pub returns-in-Point : goal.returns-in-Point
returns-in-Point c = rw c.in-Point.is c.put_pair-in-Point.ensures

pub returns-in-Pilot : goal.returns-in-Pilot
unfolding of_bits
returns-in-Pilot c = rw c.in-Pilot.is c.put_pair-in-Pilot.ensures
