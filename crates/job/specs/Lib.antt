pub mod Factor
pub mod Fold
pub mod Delivery
pub mod Job
pub mod Train
pub mod Demand
pub mod TrainDemand
