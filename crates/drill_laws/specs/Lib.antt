pub mod GoodDrills
