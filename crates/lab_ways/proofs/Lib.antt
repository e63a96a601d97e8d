mod NextStates
mod HeldUnits
mod StatesAlong
mod MarkedRows
mod WatchedWalks
