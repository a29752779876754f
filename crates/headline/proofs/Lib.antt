mod Deliveries
mod Listing
mod Right
mod Saying
