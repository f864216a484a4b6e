mod Routes
mod Ordinals
mod Grounds
mod Climbs
mod Landings
mod Titles
mod Told
